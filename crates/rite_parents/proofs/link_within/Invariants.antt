-- `rite_parents::link_within` meets its contract.
-- Assumes nothing.
use Prim.Native.Nat.{◌-◌, ◌≤◌}
use mathlib.Core.Path.{◌≡◌}
use lib.ListN.{replicate}
use Rattle.rite_parents.specs.Pass.{opened, state, steps}
use Rattle.rite_parents.proofs.link_within.Given as goal

-- the rows left make of what there is what all rows make of what there was
abbrev pub invariant-loop-i : goal.invariant-loop-i
invariant-loop-i g l =
    (l.height ≤ l.i) × (steps (l.n - l.i) l.i (state l.records l.stack l.height) ≡ steps l.n 0 (state l.initial.records (replicate g.row.N (opened 0 0)) 0))
