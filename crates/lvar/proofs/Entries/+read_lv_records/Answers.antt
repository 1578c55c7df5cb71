-- `lvar::Entries::read_lv_records` meets its contract.
-- Assumes nothing.
use Rattle.std.proofs.Common.{rules, ◌-◌, ◌≤◌, sym, ◌∙◌, arith}
use native.Mathlib.Nat.{sub-zero}
use Rattle.refusal.specs.Number.{number}
use Rattle.rows.specs.Walk.{go, stop}
use Rattle.lvar.specs.Names.{tables, state_of, lv_kids}
use Rattle.lvar.proofs.Laws.{lv_past, lv_one, lv_began, lv_child, lv_done, lv_rec}
use Rattle.lvar.proofs.Entries.+read_lv_records.Goals as goal

pub returns-then-self-walk : goal.returns-then-self-walk
returns-then-self-walk t c =
    let a = c.args in let s = a.self.now in
    sym (lv_past s.part.bytes.now s.part.base s.strings s.count 1 (state_of a.walk a.records.now a.names.now) c.if-self-walk.true)

pub returns-in_err-then : goal.returns-in_err-then
returns-in_err-then t c =
    let a = c.args in let s = a.self.now in let new = c.read_record.new in
    let e =
    lv_one s.part.bytes.now s.part.base s.strings s.count (state_of a.walk a.records.now a.names.now) (stop (number c.in_err-then.field-0.0) (tables new.records new.names))
    c.if-self-walk.false c.in_err-then.ensures in
    search rules

pub loop-child-init : goal.loop-child-init
loop-child-init t c =
    let a = c.args in let s = a.self.now in let new = c.read_record.new in let then = c.in_ok-then.then in
    let b =
    lv_began s.part.bytes.now s.part.base s.strings s.count (state_of a.walk a.records.now a.names.now) (state_of then new.records new.names)
    c.if-self-walk.false c.in_ok-then.ensures in
    (omega (arith, b.0), rw sub-zero b.1)

pub returns-then-self-then : goal.returns-then-self-then
returns-then-self-then t c =
    let a = c.args in let s = a.self.now in let l = c.loop-child in
    sym (l.invariant.1
    ∙ lv_past s.part.bytes.now s.part.base s.strings s.count (lv_kids (state_of a.walk a.records.now a.names.now) - l._child) (state_of l.then l.records l.names) c.if-self-then.true)

pub returns-in_err-then-2 : goal.returns-in_err-then-2
returns-in_err-then-2 t c =
    let a = c.args in let s = a.self.now in let l = c.loop-child in let new = c.read_lv_records.new in
    let e =
    l.invariant.1
    ∙ lv_child s.part.bytes.now s.part.base s.strings s.count (lv_kids (state_of a.walk a.records.now a.names.now)) l._child (state_of l.then l.records l.names)
    (stop (number c.in_err-then-2.field-0.0) (tables new.records new.names)) c.loop-child-test.true c.in_err-then-2.ensures in
    search rules

pub loop-child-preserved : goal.loop-child-preserved
loop-child-preserved t c =
    let a = c.args in let s = a.self.now in let l = c.loop-child in let new = c.read_lv_records.new in let then = c.in_ok-then-2.then in
    let h : l.then.rec ≤ then.rec = lv_rec s.part.bytes.now s.part.base s.strings s.count 1 (state_of l.then l.records l.names) (state_of then new.records new.names) c.in_ok-then-2.ensures in (
      omega (arith, l.invariant.0),
      l.invariant.1
          ∙ lv_child s.part.bytes.now s.part.base s.strings s.count (lv_kids (state_of a.walk a.records.now a.names.now)) l._child (state_of l.then l.records l.names)
          (go (state_of then new.records new.names)) c.loop-child-test.true c.in_ok-then-2.ensures,
    )

pub returns : goal.returns
returns t c =
    let a = c.args in let s = a.self.now in let l = c.loop-child in
    sym (l.invariant.1
    ∙ lv_done s.part.bytes.now s.part.base s.strings s.count (lv_kids (state_of a.walk a.records.now a.names.now)) l._child (state_of l.then l.records l.names) c.loop-child-test.false)
