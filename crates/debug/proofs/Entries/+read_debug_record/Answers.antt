-- `debug::Entries::read_debug_record` meets its contract.
-- Assumes nothing.
use Rattle.std.proofs.Common.{rules, ◌-◌, ◌≤◌, sym, ◌∙◌, arith}
use native.Mathlib.Nat.{sub-zero}
use Rattle.refusal.specs.Number.{number}
use Rattle.rows.specs.Walk.{go, stop}
use Rattle.debug.specs.Records.{tabs, held, state_of, kids_of}
use Rattle.debug.proofs.Laws.{visit_none, visit_one, visit_began, visit_child, visit_done, visit_rec}
use Rattle.debug.proofs.Entries.+read_debug_record.Goals as goal

pub returns-then-reads_nothing : goal.returns-then-reads_nothing
returns-then-reads_nothing t c =
    let a = c.args in let s = a.self.now in
    sym (visit_none s.part.bytes.now s.names s.count 1 (state_of a.walk a.records.now a.files.now a.lines.now) (sym c.reads_nothing.ensures ∙ c.if-reads_nothing.true))

pub returns-in_err-then : goal.returns-in_err-then
returns-in_err-then t c =
    let a = c.args in let s = a.self.now in let new = c.read_record.new in
    let e =
    visit_one s.part.bytes.now s.names s.count (state_of a.walk a.records.now a.files.now a.lines.now)
    (stop (number c.in_err-then.field-0.0) (held new.records (tabs new.files new.lines)))
    (sym c.reads_nothing.ensures ∙ c.if-reads_nothing.false) c.in_err-then.ensures in
    search rules

pub loop-child-init : goal.loop-child-init
loop-child-init t c =
    let a = c.args in let s = a.self.now in let new = c.read_record.new in let then = c.in_ok-then.then in
    let b =
    visit_began s.part.bytes.now s.names s.count (state_of a.walk a.records.now a.files.now a.lines.now) (state_of then new.records new.files new.lines)
    (sym c.reads_nothing.ensures ∙ c.if-reads_nothing.false) c.in_ok-then.ensures in
    (omega (arith, b.0), rw sub-zero b.1)

pub returns-then-reads_nothing-2 : goal.returns-then-reads_nothing-2
returns-then-reads_nothing-2 t c =
    let a = c.args in let s = a.self.now in let l = c.loop-child in
    sym (l.invariant.1
    ∙ visit_none s.part.bytes.now s.names s.count (kids_of (state_of a.walk a.records.now a.files.now a.lines.now) - l._child) (state_of l.then l.records l.files l.lines)
    (sym c.reads_nothing-in-loop-child.ensures ∙ c.if-reads_nothing-2.true))

pub returns-in_err-then-2 : goal.returns-in_err-then-2
returns-in_err-then-2 t c =
    let a = c.args in let s = a.self.now in let l = c.loop-child in let new = c.read_debug_record.new in
    let e =
    l.invariant.1
    ∙ visit_child s.part.bytes.now s.names s.count (kids_of (state_of a.walk a.records.now a.files.now a.lines.now)) l._child (state_of l.then l.records l.files l.lines)
    (stop (number c.in_err-then-2.field-0.0) (held new.records (tabs new.files new.lines))) c.loop-child-test.true c.in_err-then-2.ensures in
    search rules

pub loop-child-preserved : goal.loop-child-preserved
loop-child-preserved t c =
    let a = c.args in let s = a.self.now in let l = c.loop-child in let new = c.read_debug_record.new in let then = c.in_ok-then-2.then in
    let here = state_of l.then l.records l.files l.lines in
    let there = state_of then new.records new.files new.lines in
    let h : l.then.rec ≤ then.rec = visit_rec s.part.bytes.now s.names s.count 1 here there c.in_ok-then-2.ensures in (
      omega (arith, l.invariant.0),
      l.invariant.1
          ∙ visit_child s.part.bytes.now s.names s.count (kids_of (state_of a.walk a.records.now a.files.now a.lines.now)) l._child here (go there) c.loop-child-test.true c.in_ok-then-2.ensures,
    )

pub returns : goal.returns
returns t c =
    let a = c.args in let s = a.self.now in let l = c.loop-child in
    sym (l.invariant.1
    ∙ visit_done s.part.bytes.now s.names s.count (kids_of (state_of a.walk a.records.now a.files.now a.lines.now)) l._child (state_of l.then l.records l.files l.lines) c.loop-child-test.false)
