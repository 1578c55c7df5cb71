-- `linemap::LineMap::read_lines` meets its contract: the entries still to come, from here on, end as all of them do.
-- Assumes nothing.
use Rattle.std.proofs.Common.{◌≡◌, ◌+◌, ◌-◌}
use Rattle.std.proofs.Math.Option.{none}
use Rattle.line.specs.Answers.{line_of}
use Rattle.linemap.specs.Answers.{before_of}
use Rattle.linemap.specs.Lines.{first_before, lines_of}
use Rattle.linemap.proofs.LineMap.read_lines.Given as goal

abbrev pub invariant-loop-i : goal.invariant-loop-i
invariant-loop-i l =
    lines_of l.self.bytes.now l.self.kind (l.self.from + l.self.count) (l.self.count - l._i) (before_of l.one.before) (line_of l.one.last) l.one.rows.at l.one.rows.used l.lines
    ≡ lines_of l.self.bytes.now l.self.kind (l.self.from + l.self.count) l.self.count (first_before l.self.kind l.self.start.0) none l.self.from l.used l.initial.lines
