-- One record at a time: paper 02, i). The call that loads a file and examines a single record; the whole file against its records, each by itself; and a
-- file that passed and was changed in one record.
-- Assumes nothing.
use Prim.Native.Nat.{ℕ, zero, suc, ◌≤◌, ◌<◌}
use native.Mathlib.Omega.{arith}
use mathlib.Core.Path.{◌≡◌, refl, sym, ap, subst, ◌∙◌}
use mathlib.Core.Logic.Iff
use mathlib.Core.Logic.{◌↔◌, inl, inr}
use mathlib.Core.Bool.{Bool, true, false}
use mathlib.Core.List.{List}
use lib.Dec.{eqb}
use lib.ListN.{length, length-map, get_or-map}
use lib.Seq.{ext_get_or}
use borrow.Author.Tests.{eqb-true, eqb-false}
use Rattle.format.specs.Bytes.{Answer, ok, refused}
use Rattle.format.specs.Allowance.{Allowance}
use Rattle.format.specs.File.{Content}
use Rattle.format.specs.Load.{Nine, Counts, counts, records_of, files_of, loading, laid, load}
use Rattle.format.specs.Tree.{Whole}
use Rattle.format.specs.Pattern.{Record, Pattern, pattern_of, rec_at, blank, rlens}
use Rattle.format.specs.Exam.{RecordPasses, Passes, FilePasses, FileRecordPasses, ChangedAlone, examine_record, examine_pattern, unless_met, examine}
use Rattle.format.specs.Exam.{examine_single, passing_single, examining_single, examine_one}
use Rattle.format.proofs.Answers.{ok_refused}
use Rattle.layout.proofs.Pattern.{pattern_length}
use Rattle.runs.proofs.Refusal.{record_iff, single_by, single_inside, single_met, passes_iff, by_record_lem}
use Rattle.laws.proofs.Exact.{single_load_refused, by_number, refused_iff, answered_number, examine_is, passes_exactly, single_is, single_passes_exactly}
use Rattle.laws.proofs.Demand3.{loads_same}
use Rattle.laws.proofs.Refusals.{record_among, behind_load}
use Rattle.laws.proofs.Forbidden.{by_first}

-- The call.
module _ (f : List ℕ) (m : Nine) (a : Allowance) (q : List ℕ) (i : ℕ) where
  -- "A missing record is 22": one beyond the records of a file that loads, whatever rows are lent
  pub missing : ((examine_one f m a q i).answer ≡ refused 22) ↔ ((c : Content) × (loading f m a ≡ ok c) × (length (records_of c) ≤ i))
  unfolding examine_one examining_single passing_single
  missing = (
    λ e. let x = behind_load f m a (passing_single q i f) 22 (λ z. z) e in
        (x.0, x.1, there x.0 ((refused_iff x.0 (examine_single q i (pattern_of f x.0)) 21).0 x.2)),
    λ x. let l = x.1 in let k = back x.0 x.2 in rw (l, k),
  )
    where
      there : (c : Content) → examine_single q i (pattern_of f c) ≡ 22 → length (records_of c) ≤ i
      there c e =
          let p = pattern_of f c in
          let n = pattern_length f (records_of c) (files_of c) in
          elim (single_met q i p 21 e) [ inl h ↦ omega (arith, h.1, n) | inr h ↦ absurd (record_among q (rec_at p i) 22 h.1) ]

      back : (c : Content) → length (records_of c) ≤ i → examine_single q i (pattern_of f c) ≡ 22
      back c h =
          let n = pattern_length f (records_of c) (files_of c) in
          single_by q i (pattern_of f c) (λ (k : ℕ). k ≡ 22) (λ g. absurd (omega arith)) (λ _. refl)

  -- where it passes it answers what the load does, and leaves the load's tables
  pub passes_as_load : (k : Counts) → (examine_one f m a q i).answer ≡ ok k → examine_one f m a q i ≡ load f m a
  unfolding load
  passes_as_load k e = by_load (loading f m a) refl
    where
      by_load : (x : Answer Content) → loading f m a ≡ x → examine_one f m a q i ≡ load f m a
      by_load (refused n) l = single_load_refused f m a q i n l
      by_load (ok c) l =
          let is = single_is f m a q c l i in
          rw (is, l)
          (by_number c (examine_single q i (pattern_of f c)) (λ x. (laid m x).answer ≡ ok k → laid m x ≡ laid m (ok c)) (λ _ _. refl) (λ _ _ r. absurd (ok_refused r))
          (rw is at e))

-- "without 15": of two patterns with the same record i its number is the same, whatever the trees and the other records
module _ (q : List ℕ) (i : ℕ) (p p' : Pattern) (h : i < length p) (h' : i < length p') (same : rec_at p i ≡ rec_at p' i) where
  pub this_record_alone : examine_single q i p ≡ examine_single q i p'
  this_record_alone = single_inside q i p h ∙ ap (examine_record q) same ∙ sym (single_inside q i p' h')

-- so of two files that load, in whatever tables and under whatever allowances, the call has the same refusals
module _ (q : List ℕ) (i n : ℕ) where
  pub same_refusal : (f g : List ℕ) (m m' : Nine) (a a' : Allowance) (c c' : Content) → loading f m a ≡ ok c → loading g m' a' ≡ ok c'
      → i < length (pattern_of f c) → i < length (pattern_of g c') → rec_at (pattern_of f c) i ≡ rec_at (pattern_of g c') i
      → (examine_one f m a q i).answer ≡ refused n → (examine_one g m' a' q i).answer ≡ refused n
  same_refusal f g m m' a a' c c' l l' h h' same e =
      let k = examine_single q i (pattern_of f c) in
      rw (single_is g m' a' q c' l' i, ← (this_record_alone q i (pattern_of f c) (pattern_of g c') h h' same))
      (answered_number c k m (λ (j : ℕ). (laid m' (unless_met k c')).answer ≡ refused j) (λ j z. let r = (refused_iff c' k j).1 z in rw r) n
      (rw (single_is f m a q c l i) at e))

-- "the whole file passes exactly when its tree is whole and each record passes by itself": of a loaded pattern
pub pattern_by_itself : (q : List ℕ) (p : Pattern) → Passes q p ↔ (Whole (rlens p) × ((i : ℕ) → i < length p → RecordPasses q (rec_at p i)))
pattern_by_itself q p = (
  λ h. let z = (by_record_lem q p).0 ((passes_iff q p).1 h) in (z.0, λ i g. (record_iff q (rec_at p i)).0 (z.1 i g)),
  λ h. (passes_iff q p).0 ((by_record_lem q p).1 (h.0, λ i g. (record_iff q (rec_at p i)).1 (h.1 i g))),
)

-- of a file, in any tables in which it loads
module _ (f : List ℕ) (m : Nine) (a : Allowance) (q : List ℕ) (c : Content) (l : loading f m a ≡ ok c) where
  -- what passes there passes
  pub passes_there : FilePasses f a q ↔ Passes q (pattern_of f c)
  passes_there = (
    λ x. subst (λ (d : Content). Passes q (pattern_of f d)) (loads_same f x.tables m a x.content c x.loads l) x.passes,
    λ h. record { tables = m; content = c; loads = l; passes = h },
  )

  pub record_passes_there : (i : ℕ) → FileRecordPasses f a q i ↔ ((i < length (pattern_of f c)) × RecordPasses q (rec_at (pattern_of f c) i))
  record_passes_there i = (
    λ x.
        subst (λ (d : Content). (i < length (pattern_of f d)) × RecordPasses q (rec_at (pattern_of f d) i))
        (loads_same f x.tables m a x.content c x.loads l)
        (x.inside, x.passes),
    λ h. record { tables = m; content = c; loads = l; inside = h.0; passes = h.1 },
  )

  -- so the calls say what passes
  pub examine_there : FilePasses f a q ↔ ((examine f m a q).answer ≡ ok (counts c))
  examine_there = Iff.trans passes_there (Iff.symm (passes_exactly f m a q c l))

  pub single_there : (i : ℕ) → FileRecordPasses f a q i ↔ ((examine_one f m a q i).answer ≡ ok (counts c))
  single_there i = Iff.trans (record_passes_there i) (Iff.symm (single_passes_exactly f m a q c l i))

  -- "For one allowance the whole file passes exactly when its tree is whole and each record passes by itself.": of the calls
  pub by_itself : ((examine f m a q).answer ≡ ok (counts c))
      ↔ (Whole (rlens (pattern_of f c)) × ((i : ℕ) → i < length (pattern_of f c) → (examine_one f m a q i).answer ≡ ok (counts c)))
  by_itself =
      let w = passes_exactly f m a q c l in
      let r = single_passes_exactly f m a q c l in
      let b = pattern_by_itself q (pattern_of f c) in
      (λ e. let h = b.0 (w.0 e) in (h.0, λ i g. (r i).1 (g, h.1 i g)), λ h. w.1 (b.1 (h.0, λ i g. ((r i).0 (h.1 i g)).1)))

-- and of the file: it loads, its tree is whole, and each of its records passes by itself
pub record RecordsPass (f : List ℕ) (a : Allowance) (q : List ℕ) : Type 0 where
  pub tables : Nine
  pub content : Content
  pub loads : loading f tables a ≡ ok content
  pub tree : Whole (rlens (pattern_of f content))
  pub each : (i : ℕ) → i < length (pattern_of f content) → FileRecordPasses f a q i

pub file_by_itself : (f : List ℕ) (a : Allowance) (q : List ℕ) → FilePasses f a q ↔ RecordsPass f a q
file_by_itself f a q = (there, back)
  where
    there : FilePasses f a q → RecordsPass f a q
    there x =
        let c = x.content in
        let h = (pattern_by_itself q (pattern_of f c)).0 x.passes in
        record {
          tables = x.tables;
          content = c;
          loads = x.loads;
          tree = h.0;
          each = λ i g. (record_passes_there f x.tables a q c x.loads i).1 (g, h.1 i g);
        }

    back : RecordsPass f a q → FilePasses f a q
    back x =
        let c = x.content in
        let there = record_passes_there f x.tables a q c x.loads in
        record { tables = x.tables; content = c; loads = x.loads; passes = (pattern_by_itself q (pattern_of f c)).1 (x.tree, λ i g. ((there i).0 (x.each i g)).1) }

-- A pattern p that was changed to p' in record i alone.
module _ (i : ℕ) (p p' : Pattern) (s : ChangedAlone i p p') where
  -- "this record's rlen [is] as before": so is the tree
  changed_rlens : rlens p' ≡ rlens p
  changed_rlens =
      let of : Record → ℕ = λ r. r.rlen in
      ext_get_or 0 (rlens p') (rlens p) (length-map p' of ∙ s.number ∙ sym (length-map p of)) (λ j h.
      get_or-map of p' j blank ∙ at j (omega (arith, h, length-map p' of, s.number)) (eqb j i) refl ∙ sym (get_or-map of p j blank))
    where
      at : (j : ℕ) → j < length p → (b : Bool) → eqb j i ≡ b → (rec_at p' j).rlen ≡ (rec_at p j).rlen
      at j h true e = let k = eqb-true j i e in rw k s.children
      at j h false e = ap (λ (r : Record). r.rlen) (s.others j h (eqb-false j i e))

  -- where p passes, what p' meets first is what record i meets first
  pub changed_number : (q : List ℕ) → examine_pattern q p ≡ 0 → i < length p → examine_pattern q p' ≡ examine_record q (rec_at p' i)
  changed_number q z h = go (examine_record q (rec_at p' i)) refl
    where
      tree : Whole (rlens p')
      tree = rw changed_rlens ((by_record_lem q p).0 z).0

      other : (j : ℕ) → j < length p → ¬ (j ≡ i) → examine_record q (rec_at p' j) ≡ 0
      other j g ne = ap (examine_record q) (s.others j g ne) ∙ ((by_record_lem q p).0 z).1 j g

      each : examine_record q (rec_at p' i) ≡ 0 → (j : ℕ) → j < length p → (b : Bool) → eqb j i ≡ b → examine_record q (rec_at p' j) ≡ 0
      each e j g true k = let t = eqb-true j i k in rw t e
      each e j g false k = other j g (eqb-false j i k)

      go : (k : ℕ) → examine_record q (rec_at p' i) ≡ k → examine_pattern q p' ≡ examine_record q (rec_at p' i)
      go zero e = (by_record_lem q p').1 (tree, λ j g. each e j (omega (arith, s.number)) (eqb j i) refl) ∙ sym e
      go (suc n) e = by_first q n p' tree i (omega (arith, s.number)) (λ j g. other j (omega arith) (λ w. omega arith)) e ∙ sym e

-- "Suppose a file passed, was changed, and still loads under it. If the number of records, every other record's counts, handlers, map and instruction
-- bytes and this record's rlen are as before": f passed, c is what it loads as, g is f changed in record i alone.
module _ (f : List ℕ) (a : Allowance) (q : List ℕ) (x : FilePasses f a q) (m : Nine) (c : Content) (l : loading f m a ≡ ok c)
    (g : List ℕ) (n : Nine) (d : Content) (k : loading g n a ≡ ok d) (i : ℕ) (h : i < length (pattern_of f c)) (s : ChangedAlone i (pattern_of f c) (pattern_of g d)) where
  changed_single : examine_pattern q (pattern_of g d) ≡ examine_single q i (pattern_of g d)
  changed_single =
      let p = pattern_of f c in
      let p' = pattern_of g d in
      let z = (passes_iff q p).1 ((passes_there f m a q c l).0 x) in
      changed_number i p p' s q z h ∙ sym (single_inside q i p' (omega (arith, s.number)))

  -- then the call for this record answers what the examination of the whole file does, a refusal too, and leaves the same tables
  pub changed_file : examine g n a q ≡ examine_one g n a q i
  changed_file = examine_is g n a q d k ∙ ap (λ (j : ℕ). laid n (unless_met j d)) changed_single ∙ sym (single_is g n a q d k i)

  -- "this record passes by itself exactly when the whole file passes": so g is again a file that passed
  pub changed_passes : FileRecordPasses g a q i ↔ FilePasses g a q
  changed_passes =
      let w = examine_there g n a q d k in
      let r = single_there g n a q d k i in
      (λ y. w.1 (rw changed_file (r.0 y)), λ y. r.1 (rw changed_file at (w.0 y)))
