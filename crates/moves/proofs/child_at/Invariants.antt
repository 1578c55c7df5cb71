-- `moves::child_at` meets its contract.
-- Assumes nothing.
use Rattle.moves.proofs.Children.{Seeking}
use Rattle.moves.proofs.child_at.Given as goal

abbrev pub invariant-loop-i : goal.invariant-loop-i
invariant-loop-i l = Seeking l.records l.n l.r l.k l.i l.trees
