-- The rlens that a table of record rows says, and a table whose rows say depth and parent.
-- Assumes nothing.
use Rattle.std.specs.Prelude.{ℕ, zero, suc, ◌+◌, ◌*◌, List, [], ◌∷◌, set}
use Rattle.format.specs.Rows.{record_width}
use Rattle.format.specs.Tree.{Node}
use Rattle.format.specs.Lookup.{record_word}

-- the rlen of row i
abbrev pub rlen_in : List ℕ → ℕ → ℕ
rlen_in t i = record_word t i 3

-- the rlens of n rows from row i on
abbrev pub rlens_in : List ℕ → ℕ → ℕ → List ℕ
rlens_in t i zero = []
rlens_in t i (suc n) = rlen_in t i ∷ rlens_in t (i + 1) n

-- a node
abbrev pub node : ℕ → ℕ → Node
node d p = record { depth = d; parent = p }

-- row i says its record's depth in word 19 and its parent in word 20
abbrev pub node_in : List ℕ → ℕ → Node → List ℕ
node_in t i v = set (set t (i * record_width + 19) v.depth) (i * record_width + 20) v.parent

-- the rows from row i on say these
abbrev pub nodes_in : List ℕ → ℕ → List Node → List ℕ
nodes_in t i [] = t
nodes_in t i (v ∷ vs) = nodes_in (node_in t i v) (i + 1) vs
