-- `rows::Part::read_rows` meets its contract: the rows still to come, from here on, end as all of them do.
-- Assumes nothing.
use Rattle.std.proofs.Common.{◌≡◌, ◌-◌}
use Rattle.rows.specs.Table.{times}
use Rattle.rows.specs.Rows.{row_of}
use Rattle.rows.proofs.Part.read_rows.Given as goal

abbrev pub invariant-loop-i : goal.invariant-loop-i
invariant-loop-i l =
    times (row_of l.self.bytes.now l.self.base l.row) (l.n - l._i) l.rows.at l.rows.used l.t ≡ times (row_of l.self.bytes.now l.self.base l.row) l.n l.at l.used l.initial.t
