-- `rows::Part::read_rows` meets its contract.
-- Assumes nothing.
use Prim.Native.Nat.{◌+◌, ◌-◌}
use native.Mathlib.Omega.{arith}
use mathlib.Core.Path.{◌≡◌, ◌∙◌}
use borrow.Author.Rules.{rules}
use Rattle.refusal.specs.Number.{number}
use Rattle.rows.specs.Rows.{row_of}
use Rattle.rows.proofs.Laws.{times_go, times_no}
use Rattle.rows.proofs.Part.read_rows.Goals as goal

pub returns-in_err-rows : goal.returns-in_err-rows
returns-in_err-rows c =
    let a = c.args in
    let l = c.loop-i in
    let e =
    times_no (row_of a.self.bytes.now a.self.base a.row) (a.n - l._i) l.rows.at l.rows.used l.t (number c.in_err-rows.field-0.0) c.read_row.new.t (omega arith) c.in_err-rows.ensures
    ∙ l.invariant in
    search rules

pub loop-i-preserved : goal.loop-i-preserved
loop-i-preserved c =
    let a = c.args in
    let l = c.loop-i in
    let k : a.n - (l._i + 1) ≡ a.n - l._i - 1 = omega arith in
    rw k (times_go (row_of a.self.bytes.now a.self.base a.row) (a.n - l._i) l.rows.at l.rows.used l.t c.in_ok-rows.rows c.read_row.new.t (omega arith) c.in_ok-rows.ensures ∙ l.invariant)
