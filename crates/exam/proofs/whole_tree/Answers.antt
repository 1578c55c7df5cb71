-- `exam::whole_tree` meets its contract.
-- Assumes nothing.
use Rattle.exam.proofs.Join.{laid_turn, laid_bad, laid_end}
use Rattle.exam.proofs.whole_tree.Goals as goal

pub returns-then-p-eq0 : goal.returns-then-p-eq0
returns-then-p-eq0 c = laid_bad c.loop-i-test.true c.loop-i.invariant c.if-p-eq0.true

pub loop-i-preserved : goal.loop-i-preserved
loop-i-preserved c = laid_turn c.loop-i-test.true c.loop-i.invariant c.if-p-eq0.false c.word.ensures.0 c.word.ensures.1

pub returns : goal.returns
returns c = laid_end c.loop-i-test.false c.loop-i.invariant
