-- `exam::exam_20` meets its contract.
-- Assumes nothing.
use Prim.Native.Nat.{◌-◌, ◌/◌}
use lib.ListN.{length}
use Rattle.exam.proofs.Turns.{Risen}
use Rattle.exam.proofs.exam_20.Given as goal

abbrev pub invariant-loop-j : goal.invariant-loop-j
invariant-loop-j l = Risen l.lines (length l.lines / 2) (l.j - 1)
