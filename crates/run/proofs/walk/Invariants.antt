-- `run::walk` meets its contract.
-- Assumes nothing.
use Prim.Native.Nat.{◌-◌}
use lib.ListN.{length}
use Rattle.exam.specs.Loaded.{pattern_of}
use Rattle.run.proofs.Walks.{Walking}
use Rattle.run.proofs.walk.Given as goal

abbrev pub invariant-loop-i : goal.invariant-loop-i
invariant-loop-i l = Walking (pattern_of l.pattern) l.choices l.frames l.d l.i

abbrev pub decreases-loop-i : goal.decreases-loop-i
decreases-loop-i l = length l.choices - l.i
