-- `exam::exam_19` meets its contract.
-- Assumes nothing.
use mathlib.Core.Path.{◌∙◌}
use Rattle.exam.proofs.Turns.{caught_turn, caught_bad, caught_end, at_word}
use Rattle.exam.proofs.exam_19.Goals as goal

pub returns-then-not-begins_at : goal.returns-then-not-begins_at
returns-then-not-begins_at c =
    caught_bad c.loop-h-test.true c.loop-h.invariant (at_word c.args.code.now c.word.ensures.0 c.begins_at.ensures ∙ c.if-not-begins_at.true)

pub loop-h-preserved : goal.loop-h-preserved
loop-h-preserved c =
    caught_turn c.loop-h-test.true c.loop-h.invariant (at_word c.args.code.now c.word.ensures.0 c.begins_at.ensures ∙ c.if-not-begins_at.false)

pub returns : goal.returns
returns c = caught_end c.loop-h-test.false c.loop-h.invariant
