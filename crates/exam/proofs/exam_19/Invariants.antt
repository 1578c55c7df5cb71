-- `exam::exam_19` meets its contract.
-- Assumes nothing.
use Prim.Native.Nat.{◌/◌}
use lib.ListN.{length}
use Rattle.exam.proofs.Turns.{Caught}
use Rattle.exam.proofs.exam_19.Given as goal

abbrev pub invariant-loop-h : goal.invariant-loop-h
invariant-loop-h l = Caught l.code l.handlers (length l.handlers / 4) l.h
