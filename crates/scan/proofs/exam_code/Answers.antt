-- `scan::exam_code` meets its contract.
-- Assumes nothing.
use native.Mathlib.Omega.{arith}
use mathlib.Core.Path.{refl, ap, ◌∙◌}
use Rattle.flags.specs.Flags.{lands_from}
use Rattle.flags.proofs.Goes.{flags_mark}
use Rattle.scan.proofs.Going.{going_start, going_skip, going_17, going_18, going_off, going_land, going_end, jump_entire, jump_inside, jump_behind}
use Rattle.scan.proofs.Going.{passes, coded_stop, coded_end}
use Rattle.scan.proofs.exam_code.Goals as goal
use Rattle.scan.proofs.exam_code.Goals.{then-v-ge-HIGH+else-v-eq-HIGH+else-v-gt-TARGETED+else-not-lands_at, else-v-ge-HIGH}

pub loop-i-init : goal.loop-i-init
loop-i-init c = going_start

pub returns-then-v-eq-HIGH : goal.returns-then-v-eq-HIGH
returns-then-v-eq-HIGH c =
    let marks = c.in_ok-exam_16.ensures in
    coded_stop marks (going_17 (marks.flagged refl) c.loop-i-test.true c.loop-i.invariant c.if-v-eq-HIGH.true)

pub returns-then-v-gt-TARGETED : goal.returns-then-v-gt-TARGETED
returns-then-v-gt-TARGETED c =
    let marks = c.in_ok-exam_16.ensures in
    coded_stop marks (going_18 (marks.flagged refl) c.loop-i-test.true c.loop-i.invariant c.if-v-gt-TARGETED.true)

pub next_offset-requires : goal.next_offset-requires
next_offset-requires c =
    let marks = c.in_ok-exam_16.ensures in jump_entire (marks.flagged refl) c.loop-i-test.true (passes marks) (omega arith)

pub lands_at-requires-clause-marked : goal.lands_at-requires-clause-marked
lands_at-requires-clause-marked c = let marks = c.in_ok-exam_16.ensures in flags_mark (marks.flagged refl)

pub lands_at-requires-clause-le_next : goal.lands_at-requires-clause-le_next
lands_at-requires-clause-le_next c =
    let marks = c.in_ok-exam_16.ensures in
    let flagged = marks.flagged refl in
    let h = c.loop-i-test.true in
    let far = jump_behind flagged h (passes marks) (omega arith) (omega arith) in
    let near = jump_inside flagged h (passes marks) (omega arith) in
    (omega (arith, c.next_offset.ensures, far), omega (arith, c.next_offset.ensures, near))

pub returns-then-not-lands_at : goal.returns-then-not-lands_at
returns-then-not-lands_at c =
    let marks = c.in_ok-exam_16.ensures in
    coded_stop marks
    (going_off (marks.flagged refl) c.loop-i-test.true c.loop-i.invariant (omega arith)
    (c.lands_at.ensures ∙ ap (lands_from c.args.code.now) c.next_offset.ensures) c.if-not-lands_at.true)

pub loop-i-preserved : goal.loop-i-preserved
loop-i-preserved c =
    let marks = c.in_ok-exam_16.ensures in
    elim c.if-v-ge-HIGH.branch [
      | then-v-ge-HIGH+else-v-eq-HIGH+else-v-gt-TARGETED+else-not-lands_at w ↦
          going_land (marks.flagged refl) c.loop-i-test.true c.loop-i.invariant (omega arith)
          (w.lands_at.ensures ∙ ap (lands_from c.args.code.now) w.next_offset.ensures) w.if-not-lands_at.false
      | else-v-ge-HIGH w ↦ going_skip (marks.flagged refl) c.loop-i-test.true c.loop-i.invariant (omega arith)
    ]

pub returns : goal.returns
returns c = coded_end c.in_ok-exam_16.ensures (going_end c.loop-i-test.false c.loop-i.invariant)
