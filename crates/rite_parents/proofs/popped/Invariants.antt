-- `rite_parents::popped` meets its contract.
-- Assumes nothing.
use Prim.Native.Nat.{◌≤◌}
use mathlib.Core.Path.{◌≡◌}
use Rattle.rite_parents.specs.Pass.{pop_to}
use Rattle.rite_parents.proofs.popped.Given as goal

abbrev pub invariant-loop-k : goal.invariant-loop-k
invariant-loop-k l = (l.k ≤ l.height) × (pop_to l.stack l.k ≡ pop_to l.stack l.height)
