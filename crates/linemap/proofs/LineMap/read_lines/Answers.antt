-- `linemap::LineMap::read_lines` meets its contract.
-- Assumes nothing.
use Rattle.std.proofs.Common.{rules, ◌≡◌, ◌+◌, ◌-◌, sym, ◌∙◌, arith}
use Rattle.line.specs.Answers.{line_of}
use Rattle.refusal.specs.Number.{number}
use Rattle.linemap.specs.Answers.{before_of}
use Rattle.linemap.specs.Lines.{lines_of}
use Rattle.linemap.proofs.Laws.{lines_go, lines_no, lines_end}
use Rattle.linemap.proofs.LineMap.read_lines.Goals as goal

pub returns-then-not-goes_on : goal.returns-then-not-goes_on
returns-then-not-goes_on c =
    let m = c.args.self in let l = c.loop-i in let o = l.one in
    lines_end m.bytes.now m.kind (m.from + m.count) (m.count - l._i) (before_of o.before) (line_of o.last) o.rows.at o.rows.used l.lines
    (sym c.goes_on.ensures ∙ c.if-not-goes_on.true)
    ∙ l.invariant

pub returns-in_err-one : goal.returns-in_err-one
returns-in_err-one c =
    let m = c.args.self in let l = c.loop-i in let o = l.one in
    let e =
    lines_no m.bytes.now m.kind (m.from + m.count) (m.count - l._i) (before_of o.before) (line_of o.last) o.rows.at o.rows.used l.lines
    (number c.in_err-one.field-0.0) c.read_line.new.lines (omega arith) (sym c.goes_on.ensures ∙ c.if-not-goes_on.false) c.in_err-one.ensures
    ∙ l.invariant in
    search rules

pub loop-i-preserved : goal.loop-i-preserved
loop-i-preserved c =
    let m = c.args.self in let l = c.loop-i in let o = l.one in
    let k : m.count - (l._i + 1) ≡ m.count - l._i - 1 = omega arith in
    rw k
    (lines_go m.bytes.now m.kind (m.from + m.count) (m.count - l._i) (before_of o.before) (line_of o.last) o.rows.at o.rows.used l.lines
    c.in_ok-one.one c.read_line.new.lines (omega arith) (sym c.goes_on.ensures ∙ c.if-not-goes_on.false) c.in_ok-one.ensures
    ∙ l.invariant)

pub returns : goal.returns
unfolding lines_of
returns c = let k : c.args.self.count - c.loop-i._i ≡ 0 = omega arith in rw k at c.loop-i.invariant
