-- `scan::exam_16` meets its contract.
-- Assumes nothing.
use native.Mathlib.Omega.{arith}
use borrow.Author.Rules.{rules}
use mathlib.Core.Path.{◌≡◌}
use Rattle.refusal.specs.Number.{number, refusal_of}
use Rattle.examine_list.specs.Full.{bytes_of}
use Rattle.flags.proofs.Tests.{tested_met, tested_passed, alone_here, cut_here, passed_here, prefix_here, behind_inside}
use Rattle.scan.proofs.Marks.{marks_empty, marking_start, marks_met, entire, inside, marking_turn, marking_32, marking_end}
use Rattle.scan.proofs.exam_16.Goals as goal

pub returns-then-is_empty : goal.returns-then-is_empty
returns-then-is_empty c =
    let a = c.args in
    marks_empty a.limits.now.by_role (bytes_of a.permitted.now.answers) a.code.now a.flags.now (search rules)

pub loop-i-init : goal.loop-i-init
loop-i-init c = marking_start (search rules) c.requires.code_in_bounds c.clear.ensures

pub returns-in_err-t : goal.returns-in_err-t
returns-in_err-t c =
    let a = c.args in
    let r = tested_met a.limits.now.by_role a.code.now c.loop-i.i c.in_err-t.ensures in
    let e : refusal_of c.from_residual.result ≡ number c.in_err-t.field-0.0 = search rules in
    rw e (marks_met c.loop-i-test.true c.loop-i.invariant r.0 r.1)

pub with_prefixed-all-requires : goal.with_prefixed-all-requires
with_prefixed-all-requires c =
    let a = c.args in
    let p = tested_passed a.limits.now.by_role a.code.now c.loop-i.i c.in_ok-t.ensures in
    let e = entire c.loop-i-test.true c.loop-i.invariant p in
    let d = c.digits-d.ensures in
    let z = c.if-n-eq0.true in
    record { prefixed = (behind_inside e d z, prefix_here e d z) }

pub overflow_add-i : goal.overflow_add-i
overflow_add-i c =
    let a = c.args in
    let p = tested_passed a.limits.now.by_role a.code.now c.loop-i.i c.in_ok-t.ensures in
    record { fits = omega (arith, inside c.loop-i-test.true c.loop-i.invariant p) }

pub loop-i-smaller-then-n-eq0 : goal.loop-i-smaller-then-n-eq0
loop-i-smaller-then-n-eq0 c =
    let a = c.args in
    let p = tested_passed a.limits.now.by_role a.code.now c.loop-i.i c.in_ok-t.ensures in
    let e = entire c.loop-i-test.true c.loop-i.invariant p in
    omega (arith, inside c.loop-i-test.true c.loop-i.invariant p)

pub loop-i-preserved-then-n-eq0 : goal.loop-i-preserved-then-n-eq0
loop-i-preserved-then-n-eq0 c =
    let a = c.args in
    let p = tested_passed a.limits.now.by_role a.code.now c.loop-i.i c.in_ok-t.ensures in
    marking_turn c.loop-i-test.true c.loop-i.invariant p c.with_prefixed-all.ensures

pub returns-then-code-i : goal.returns-then-code-i
returns-then-code-i c =
    let h = c.loop-i-test.true in
    marks_met h c.loop-i.invariant (cut_here c.args.code.now _ h c.digits-d.ensures c.if-n-eq0.false c.if-code-i.true) (λ z. omega arith)

pub flag_at-requires : goal.flag_at-requires
flag_at-requires c =
    record { alone = alone_here c.args.code.now _ c.loop-i-test.true c.digits-d.ensures c.if-n-eq0.false c.if-code-i.false }

pub loop-i-preserved : goal.loop-i-preserved
loop-i-preserved c =
    let a = c.args in
    let h = c.loop-i-test.true in
    let p = passed_here a.limits.now.by_role a.code.now _ h c.digits-d.ensures c.if-n-eq0.false c.if-code-i.false c.flag_at.ensures in
    marking_turn h c.loop-i.invariant p c.with_alone-all.ensures

pub returns-then-not-all : goal.returns-then-not-all
returns-then-not-all c = marking_32 c.loop-i-test.false c.loop-i.invariant c.if-not-all.true

pub returns : goal.returns
returns c = marking_end c.loop-i-test.false c.loop-i.invariant c.if-not-all.false
