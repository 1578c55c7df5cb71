-- The nodes of records: one for each record.
-- Assumes nothing.
use Prim.Native.Nat.{ℕ, suc, ◌+◌}
use mathlib.Core.Path.{◌≡◌, refl, ap}
use mathlib.Core.List.{List, [], ◌∷◌, ◌++◌}
use lib.ListN.{length, replicate}
use Rattle.format.specs.Tree.{Node, under, nodes_from}

pub nodes_length : (l : List ℕ) (vs : List Node) (i : ℕ) → length (nodes_from l vs i) ≡ length l
unfolding nodes_from
nodes_length [] vs i = refl
nodes_length (r ∷ l) [] i = ap suc (nodes_length l [] (i + 1))
nodes_length (r ∷ l) (v ∷ vs) i = ap suc (nodes_length l (replicate r (under i v) ++ vs) (i + 1))
