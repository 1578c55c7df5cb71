-- Paper 02, a): "Blocks that know their parent." What the record table of a file that loads says of depth and parent, and of the records of a
-- run's frames.
-- Assumes nothing.
use Prim.Native.Nat.{ℕ, zero, suc, ◌≤◌, ◌<◌}
use native.Mathlib.Omega.{arith}
use mathlib.Core.Path.{◌≡◌, refl, sym, ap, subst, ◌∙◌}
use mathlib.Core.Logic.{◌↔◌, ◌⊎◌, inl, inr}
use mathlib.Core.Bool.{Bool, true, false}
use mathlib.Core.List.{List, [], ◌∷◌}
use lib.Dec.{ltb}
use lib.ListN.{length, get_or, drop, length-map}
use borrow.Author.Tests.{ltb-true, ltb-false}
use Rattle.format.specs.Bytes.{ok}
use Rattle.format.specs.Rows.{RecordRow, record_words, record_width}
use Rattle.format.specs.Irep.{Rec, body, head_at}
use Rattle.format.specs.Tree.{Whole, span, Node, alone, under, nodes_from, nodes}
use Rattle.format.specs.Walk.{rlens}
use Rattle.format.specs.Allowance.{Allowance}
use Rattle.format.specs.File.{Content}
use Rattle.format.specs.Load.{Nine, records_of, files_of, nodes_of, tables_of, loading, load}
use Rattle.format.specs.Lookup.{record_word, record_row_at}
use Rattle.format.specs.Pattern.{pattern_of}
use Rattle.format.specs.Pattern as pattern
use Rattle.format.specs.Exam.{FilePasses}
use Rattle.format.specs.Run.{Choice, frame, run}
use Rattle.format.proofs.Places.{records_length}
use Rattle.format.proofs.Walk.{span_most}
use Rattle.layout.proofs.Own.{row_at}
use Rattle.layout.proofs.Inside.{loading_held}
use Rattle.layout.proofs.Pattern.{pattern_length}
use Rattle.layout.proofs.Back.{table_zero, record_back}
use Rattle.runs.proofs.Tree.{whole_iff}
use Rattle.runs.proofs.Exact.{GoodFile, good_file}
use Rattle.runs.proofs.Refusal.{passes_iff}
use Rattle.runs.proofs.Parents.{node_at, first_alone, unreached_alone, ChildOf, HasParent, reached_parent, whole_parent, depth_most, run_parent, run_depth, run_lowest}
use Rattle.laws.proofs.Audit.{loaded_tables}
use Rattle.laws.proofs.Demand3.{pattern_rlens, loads_same, claim_anywhere}

-- row i of the record table once the file f is loaded in lent tables of m words, under the allowance a
abbrev pub row_of : List ℕ → Nine → Allowance → ℕ → RecordRow
row_of f m a i = record_row_at (load f m a).tables.records i

-- its depth and parent, which are its words 19 and 20
abbrev pub node_of : List ℕ → Nine → Allowance → ℕ → Node
node_of f m a i = record { depth = (row_of f m a i).depth; parent = (row_of f m a i).parent }

pub words_are : (f : List ℕ) (m : Nine) (a : Allowance) (i : ℕ)
    → node_of f m a i ≡ record { depth = record_word (load f m a).tables.records i 19; parent = record_word (load f m a).tables.records i 20 }
words_are f m a i = refl

-- "by the walk over the rlens, with or without LVAR": nothing but the rlens counts
pub rlens_alone : (c d : Content) → rlens (records_of c) ≡ rlens (records_of d) → nodes_of c ≡ nodes_of d
rlens_alone c d e = ap nodes e

-- rlens of a tree that is not whole, whose records have parents all the same
pub not_whole : nodes (65535 ∷ 2 ∷ 65535 ∷ []) ≡ alone ∷ under 0 alone ∷ under 1 (under 0 alone) ∷ []
unfolding nodes_from
not_whole = refl

-- "parent 65535 and depth 0"
abbrev pub Alone : RecordRow → Type 0
Alone r = (r.parent ≡ 65535) × (r.depth ≡ 0)

-- Record i's row names a record of which i is a child by the rlens l, and "index and depth are above its parent's, the depth by one".
pub record RowHasParent (row : ℕ → RecordRow) (l : List ℕ) (i : ℕ) : Type 0 where
  pub child : ChildOf l (row i).parent i
  pub index : (row i).parent < i
  pub depth : (row i).depth ≡ suc (row (row i).parent).depth

module _ (f : List ℕ) (m : Nine) (a : Allowance) (c : Content) (loads : loading f m a ≡ ok c) where
  -- "The record row gains its depth and its parent's index"
  pub row_node : (i : ℕ) → i < length (records_of c) → node_of f m a i ≡ node_at (rlens (records_of c)) i
  row_node i h =
      let d : Rec = record { head = head_at [] 0; place = 0; body = body [] [] [] } in
      let e = record_back m.records (tables_of c).records i (record_row_at [] 0) (rw (records_length c) h) ∙ row_at c i h d (record_row_at [] 0) in
      rw (loaded_tables f m a c loads) (ap (λ (r : RecordRow). record { depth = r.depth; parent = r.parent }) e)

  -- a row that is not used is zero in both
  pub row_unused : (i : ℕ) → length (records_of c) ≤ i → node_of f m a i ≡ record { depth = 0; parent = 0 }
  row_unused i h =
      let z = table_zero record_words record_width (λ _. refl) m.records (tables_of c).records i in
      let g : length (tables_of c).records ≤ i = rw (records_length c) h in
      rw (loaded_tables f m a c loads, z 19 g, z 20 g)

  row_depth : (i : ℕ) → i < length (records_of c) → (row_of f m a i).depth ≡ (node_at (rlens (records_of c)) i).depth
  row_depth i h = ap (λ (v : Node). v.depth) (row_node i h)

  row_parent : (i : ℕ) → i < length (records_of c) → (row_of f m a i).parent ≡ (node_at (rlens (records_of c)) i).parent
  row_parent i h = ap (λ (v : Node). v.parent) (row_node i h)

  row_alone : (i : ℕ) → i < length (records_of c) → node_at (rlens (records_of c)) i ≡ alone → Alone (row_of f m a i)
  row_alone i h e = (row_parent i h ∙ ap (λ (v : Node). v.parent) e, row_depth i h ∙ ap (λ (v : Node). v.depth) e)

  -- "Record 0 and records that the walk never reaches have parent 65535 and depth 0."
  pub first_row : 0 < length (records_of c) → Alone (row_of f m a 0)
  first_row h = row_alone 0 h (first_alone (rlens (records_of c)))

  pub unreached_row : (i : ℕ) → i < length (records_of c) → span 1 (rlens (records_of c)) ≤ i → Alone (row_of f m a i)
  unreached_row i h g = row_alone i h (unreached_alone (rlens (records_of c)) i g)

  row_has : (i : ℕ) → i < length (records_of c) → HasParent (rlens (records_of c)) i → RowHasParent (row_of f m a) (rlens (records_of c)) i
  row_has i h x =
      let p = row_parent i h in
      let d = row_depth (node_at (rlens (records_of c)) i).parent (omega (arith, x.index)) in
      record { child = rw p x.child; index = rw p x.index; depth = rw (p, row_depth i h, d) x.depth }

  -- in any tree every other record that the walk reaches has a parent before it
  pub reached_row : (i : ℕ) → 0 < i → i < span 1 (rlens (records_of c)) → RowHasParent (row_of f m a) (rlens (records_of c)) i
  reached_row i z g = row_has i (omega (arith, span_most (records_of c) 1)) (reached_parent (rlens (records_of c)) i z g)

  -- "In a whole tree any other record's index and depth are above its parent's, the depth by one."
  pub whole_row : Whole (rlens (records_of c)) → (i : ℕ) → 0 < i → i < length (records_of c) → RowHasParent (row_of f m a) (rlens (records_of c)) i
  whole_row w i z h = row_has i h (whole_parent (rlens (records_of c)) ((whole_iff (rlens (records_of c))).1 w) i z (rw length-map h))

  -- no record is deeper than there are records before it
  pub depth_row : (i : ℕ) → i < length (records_of c) → (row_of f m a i).depth ≤ i
  depth_row i h = rw (row_depth i h) (depth_most (rlens (records_of c)) i)

  -- so 65535 says that there is no parent, as no record has that index
  pub alone_iff : (i : ℕ) → i < length (records_of c) → ((row_of f m a i).parent ≡ 65535) ↔ ((i ≡ 0) ⊎ (span 1 (rlens (records_of c)) ≤ i))
  alone_iff i h = (there i h (ltb i (span 1 (rlens (records_of c)))) refl, back)
    where
      there : (i : ℕ) → i < length (records_of c) → (b : Bool) → ltb i (span 1 (rlens (records_of c))) ≡ b → (row_of f m a i).parent ≡ 65535
          → (i ≡ 0) ⊎ (span 1 (rlens (records_of c)) ≤ i)
      there zero h b e q = inl refl
      there (suc i) h true e q =
          let x = (reached_row (suc i) (omega arith) (ltb-true (suc i) (span 1 (rlens (records_of c))) e)).index in
          absurd (omega (arith, records_length c, (loading_held f m a c loads).few))
      there (suc i) h false e q = inr (ltb-false (suc i) (span 1 (rlens (records_of c))) e)

      back : (i ≡ 0) ⊎ (span 1 (rlens (records_of c)) ≤ i) → (row_of f m a i).parent ≡ 65535
      back (inl e) = rw e (first_row (omega arith)).0
      back (inr g) = (unreached_row i h g).0

  -- and parent 0 with depth 0 marks no record
  pub row_used : (i : ℕ) → i < length (records_of c) → (row_of f m a i).parent ≡ 0 → (row_of f m a i).depth ≡ 0 → ⊥
  row_used i h p d = go i h p d (ltb i (span 1 (rlens (records_of c)))) refl
    where
      go : (i : ℕ) → i < length (records_of c) → (row_of f m a i).parent ≡ 0 → (row_of f m a i).depth ≡ 0 → (b : Bool) → ltb i (span 1 (rlens (records_of c))) ≡ b → ⊥
      go zero h p d b e = omega (arith, (first_row h).0)
      go (suc i) h p d true e = omega (arith, (reached_row (suc i) (omega arith) (ltb-true (suc i) (span 1 (rlens (records_of c))) e)).depth)
      go (suc i) h p d false e = omega (arith, (unreached_row (suc i) h (ltb-false (suc i) (span 1 (rlens (records_of c))) e)).0)

-- "with or without LVAR": the rows of two files whose records have the same rlens say the same depths and parents
pub rows_same : (f g : List ℕ) (m n : Nine) (a b : Allowance) (c d : Content) → loading f m a ≡ ok c → loading g n b ≡ ok d
    → rlens (records_of c) ≡ rlens (records_of d) → (i : ℕ) → i < length (records_of c) → node_of f m a i ≡ node_of g n b i
rows_same f g m n a b c d x y e i h =
    let same : length (rlens (records_of c)) ≡ length (rlens (records_of d)) = ap length e in
    let k : i < length (records_of d) = omega (arith, simp length-map at same) in
    row_node f m a c x i h ∙ ap (λ t. get_or t i alone) (rlens_alone c d e) ∙ sym (row_node g n b d y i k)

-- the record of frame i of a run, the top frame first
abbrev pub record_at : List ℕ → Content → List Choice → ℕ → ℕ
record_at f c cs i = (get_or (run (pattern_of f c) cs) i (frame 0 0)).rec

-- a file that passes under an allowance and a list, any tables in which it then loads, and every list of choices
module _ (f : List ℕ) (a : Allowance) (q : List ℕ) (x : FilePasses f a q) (m : Nine) (c : Content) (loads : loading f m a ≡ ok c) (cs : List Choice) where
  passed : GoodFile (pattern_of f c)
  passed =
      let p = pattern_of f x.content in
      let good : GoodFile p = good_file q p ((passes_iff q p).1 x.passes) in
      subst (λ (d : Content). GoodFile (pattern_of f d)) (loads_same f x.tables m a x.content c x.loads loads) good

  frame_node : (i : ℕ) → i < length (run (pattern_of f c) cs) → node_of f m a (record_at f c cs i) ≡ node_at (pattern.rlens (pattern_of f c)) (record_at f c cs i)
  frame_node i h =
      let n = pattern_length f (records_of c) (files_of c) in
      let inside = ((claim_anywhere f a q x m c loads cs).frames i h).inside in
      rw (pattern_rlens f (records_of c) (files_of c)) (row_node f m a c loads (record_at f c cs i) (omega arith))

  -- "step out to the pattern that contains it": from a frame that a child opcode entered to the frame below it, whose record is the parent of its own
  pub frame_parent : (i : ℕ) → suc i < length (run (pattern_of f c) cs)
      → ((row_of f m a (record_at f c cs i)).parent ≡ record_at f c cs (suc i)) × ((row_of f m a (record_at f c cs i)).depth ≡ suc (row_of f m a (record_at f c cs (suc i))).depth)
  frame_parent i h =
      let e = frame_node i (omega arith) ∙ run_parent (pattern_of f c) passed cs i h in
      (ap (λ (v : Node). v.parent) e, ap (λ (v : Node). v.depth) e ∙ ap (λ (v : Node). suc v.depth) (sym (frame_node (suc i) h)))

  -- a frame's record is as deep as there are frames below it
  pub frame_depth : (i : ℕ) → i < length (run (pattern_of f c) cs) → (row_of f m a (record_at f c cs i)).depth ≡ length (drop (suc i) (run (pattern_of f c) cs))
  frame_depth i h = ap (λ (v : Node). v.depth) (frame_node i h) ∙ run_depth (pattern_of f c) passed cs i h

  -- the lowest frame is record 0's
  pub frame_lowest : (i : ℕ) → suc i ≡ length (run (pattern_of f c) cs) → record_at f c cs i ≡ 0
  frame_lowest i h = run_lowest (pattern_of f c) passed cs i h
