-- `line::line_at` meets its contract. The loop's invariant: the halving from here ends where the whole one does; f bounds its turns.
-- Assumes nothing.
use mathlib.Core.Path.{◌≡◌}
use Prim.Native.Nat.{ℕ, ◌-◌, ◌/◌, ◌≤◌}
use lib.ListN.{length}
use Rattle.format.specs.Line.{halve, map_of}
use Rattle.line.proofs.line_at.Given as goal

abbrev pub invariant-loop-lo : goal.invariant-loop-lo
invariant-loop-lo l =
    (l.lo ≤ l.hi) × (l.hi ≤ length l.map / 2) × ((f : ℕ) × (l.hi - l.lo ≤ f) × (halve (length (map_of l.map)) (map_of l.map) l.p 0 (length (map_of l.map)) ≡ halve f (map_of l.map) l.p l.lo l.hi))

abbrev pub decreases-loop-lo : goal.decreases-loop-lo
decreases-loop-lo l = l.hi - l.lo
