-- The pass over a table that holds the rows of records: it leaves the rows of the same records with their nodes.
-- Assumes nothing.
use Prim.Native.Nat.{ℕ, suc, ◌+◌, ◌*◌}
use native.Mathlib.Omega.{arith}
use mathlib.Core.Path.{◌≡◌, refl, ap, ◌∙◌}
use mathlib.Core.List.{List, [], ◌∷◌, ◌++◌, append_assoc}
use lib.ListN.{length, get_or, drop, length-append, length-map}
use Rattle.format.specs.Rows.{RecordRow, record_width, record_words, NameRow, table_of}
use Rattle.format.specs.Irep.{Rec}
use Rattle.format.specs.Debug.{File}
use Rattle.format.specs.Tree.{Node, alone, nodes}
use Rattle.format.specs.Walk.{rlens}
use Rattle.format.specs.Load.{Before, start, past, record_row, record_rows}
use Rattle.format.proofs.Nodes.{nodes_length}
use Rattle.format.proofs.Places.{word_at, sets_at}
use Rattle.rite_parents.specs.Nodes.{rlen_in, rlens_in, node_in, nodes_in}

module _ (m : ℕ) where
  -- the table of rows
  abbrev T : List RecordRow → List ℕ
  T xs = table_of record_words m xs

  -- the row behind xs, once its record's node is known
  node_put : (xs : List RecordRow) (b : Before) (r : Rec) (ns : List NameRow) (fs : List File) (v : Node) (ys : List RecordRow) (j : ℕ) → length xs ≡ j
      → node_in (T (xs ++ record_row b r ns fs alone ∷ ys)) j v ≡ T (xs ++ record_row b r ns fs v ∷ ys)
  node_put xs b r ns fs v ys j e =
      let next : j * record_width + 20 ≡ suc (j * record_width + 19) = omega arith in
      rw next
      (sets_at record_words record_width (λ _. refl) m xs (record_row b r ns fs alone) (record_row b r ns fs v) ys j 19 (v.depth ∷ v.parent ∷ []) e (omega arith) refl)

  -- the rows behind xs
  nodes_behind : (xs : List RecordRow) (b : Before) (rs : List Rec) (nss : List (List NameRow)) (fss : List (List File)) (vs : List Node) (j : ℕ)
      → length xs ≡ j → length vs ≡ length rs → nodes_in (T (xs ++ record_rows b rs nss fss [])) j vs ≡ T (xs ++ record_rows b rs nss fss vs)
  nodes_behind xs b [] nss fss [] j e q = refl
  nodes_behind xs b [] nss fss (v ∷ vs) j e q = absurd (omega arith)
  nodes_behind xs b (r ∷ rs) nss fss [] j e q = refl
  nodes_behind xs b (r ∷ rs) nss fss (v ∷ vs) j e q =
      let ns = get_or nss 0 [] in
      let fs = get_or fss 0 [] in
      let c = past b r ns fs in
      let y = record_row b r ns fs v in
      let n : length (xs ++ y ∷ []) ≡ j + 1 = rw length-append (omega arith) in
      ap (λ t. nodes_in t (j + 1) vs) (node_put xs b r ns fs v (record_rows c rs (drop 1 nss) (drop 1 fss) []) j e)
      ∙ simp append_assoc at (nodes_behind (xs ++ y ∷ []) c rs (drop 1 nss) (drop 1 fss) vs (j + 1) n (omega arith))

  -- the rlens that the rows behind xs say
  rlens_behind : (xs : List RecordRow) (b : Before) (rs : List Rec) (nss : List (List NameRow)) (fss : List (List File)) (j : ℕ)
      → length xs ≡ j → rlens_in (T (xs ++ record_rows b rs nss fss [])) j (length rs) ≡ rlens rs
  rlens_behind xs b [] nss fss j e = refl
  rlens_behind xs b (r ∷ rs) nss fss j e =
      let ns = get_or nss 0 [] in
      let fs = get_or fss 0 [] in
      let c = past b r ns fs in
      let x = record_row b r ns fs alone in
      let ys = record_rows c rs (drop 1 nss) (drop 1 fss) [] in
      let n : length (xs ++ x ∷ []) ≡ j + 1 = rw length-append (omega arith) in
      let here : rlen_in (T (xs ++ x ∷ ys)) j ≡ r.head.rlen = word_at record_words record_width (λ _. refl) m xs x ys j 3 e (omega arith) in
      let next = rw append_assoc at (rlens_behind (xs ++ x ∷ []) c rs (drop 1 nss) (drop 1 fss) (j + 1) n) in
      rw (here, next)

  module _ (rs : List Rec) (nss : List (List NameRow)) (fss : List (List File)) where
    pub nodes_put : (vs : List Node) → length vs ≡ length rs → nodes_in (T (record_rows start rs nss fss [])) 0 vs ≡ T (record_rows start rs nss fss vs)
    nodes_put vs q = nodes_behind [] start rs nss fss vs 0 refl q

    pub rlens_laid : rlens_in (T (record_rows start rs nss fss [])) 0 (length rs) ≡ rlens rs
    rlens_laid = rlens_behind [] start rs nss fss 0 refl

    -- what the pass makes of the table
    pub parents_laid : let t = T (record_rows start rs nss fss []) in
        nodes_in t 0 (nodes (rlens_in t 0 (length rs))) ≡ T (record_rows start rs nss fss (nodes (rlens rs)))
    parents_laid = rw rlens_laid (nodes_put (nodes (rlens rs)) (nodes_length (rlens rs) (alone ∷ []) 0 ∙ length-map rs (λ r. r.head.rlen)))
