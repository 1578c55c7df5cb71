-- The tree of the records, by the list of their rlens. Paper 01, 'Examination'; paper 02, a): each record's depth and parent.
-- Assumes nothing.
use Rattle.std.specs.Prelude.{ℕ, zero, suc, ◌+◌, ◌≤◌, ◌<◌, ◌≡◌, Bool, true, false, List, [], ◌∷◌, ◌++◌, length, take, drop, replicate}

unfoldable pub total : List ℕ → ℕ
total [] = 0
total (r ∷ l) = r + total l

-- "A tree is whole when the rlens of all records sum to the count minus 1 and, for every m from 1 to count - 1, the first m sum to at least m."
pub record Whole (l : List ℕ) : Type 0 where
  pub sums : suc (total l) ≡ length l
  pub enough : (m : ℕ) → 1 ≤ m → m < length l → m ≤ total (take m l)

-- the same as a test: p trees, one after another, take up the list exactly
unfoldable pub layout : ℕ → List ℕ → Bool
layout zero [] = true
layout (suc p) [] = false
layout zero (r ∷ l) = false
layout (suc p) (r ∷ l) = layout (p + r) l

abbrev pub whole : List ℕ → Bool
whole l = layout 1 l

-- how many records the first p trees of the list take up
unfoldable pub span : ℕ → List ℕ → ℕ
span zero [] = 0
span (suc p) [] = 0
span zero (r ∷ l) = 0
span (suc p) (r ∷ l) = suc (span (p + r) l)

-- where the subtree of record r ends
abbrev pub ending : List ℕ → ℕ → ℕ
ending l r = r + span 1 (drop r l)

-- "Child 0 of r is r + 1; the next child starts where the previous one's subtree ends."
unfoldable pub child_of : List ℕ → ℕ → ℕ → ℕ
child_of l r zero = suc r
child_of l r (suc k) = ending l (child_of l r k)

-- Paper 02, a): "its depth and its parent's index"
pub record Node : Type 0 where
  pub depth : ℕ
  pub parent : ℕ

-- the index that no record has
abbrev pub no_parent : ℕ
no_parent = 65535

-- "Record 0 and records that the walk never reaches have parent 65535 and depth 0."
abbrev pub alone : Node
alone = record { depth = 0; parent = no_parent }

-- a child of record i
abbrev pub under : ℕ → Node → Node
under i v = record { depth = suc v.depth; parent = i }

-- "by the walk over the rlens": those of the records from i on, and the visits still to be made, each with the node of the record that it
-- reaches. A record takes the first visit, and the visits to its children come before the others; where no visit is left, it is not reached.
unfoldable pub nodes_from : List ℕ → List Node → ℕ → List Node
nodes_from [] vs i = []
nodes_from (r ∷ l) [] i = alone ∷ nodes_from l [] (i + 1)
nodes_from (r ∷ l) (v ∷ vs) i = v ∷ nodes_from l (replicate r (under i v) ++ vs) (i + 1)

-- the nodes of all records, "with or without LVAR"
abbrev pub nodes : List ℕ → List Node
nodes l = nodes_from l (alone ∷ []) 0
