-- `exam::whole_tree` meets its contract.
-- Assumes nothing.
use Rattle.exam.proofs.Join.{Laid}
use Rattle.exam.proofs.whole_tree.Given as goal

abbrev pub invariant-loop-i : goal.invariant-loop-i
invariant-loop-i l = Laid l.records l.n l.i l.p
