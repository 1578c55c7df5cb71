-- When 29 is met: paper 02, h). A load answers 29 exactly where the file, or its number of records, is beyond the allowance; an examination, that of a
-- single record and a run only where the load does; and under the desktop's allowance, or a larger one, none ever.
-- Assumes nothing.
use Prim.Native.Nat.{ℕ, ◌≤◌, ◌<◌}
use native.Mathlib.Nat.{le_refl}
use native.Mathlib.Omega.{arith}
use mathlib.Core.Path.{◌≡◌, refl, sym, ap, subst, ◌∙◌}
use mathlib.Core.Logic.{◌↔◌, ◌⊎◌, inl, inr}
use mathlib.Core.Bool.{Bool, true, false, cond}
use mathlib.Core.List.{List, ◌∷◌}
use lib.Dec.{leb}
use lib.ListN.{length}
use borrow.Author.Tests.{leb-true, leb-false}
use Rattle.format.specs.Bytes.{Answer, ok, refused, bind}
use Rattle.format.specs.Allowance.{Allowance, desktop, granted, Within}
use Rattle.format.specs.File.{Content, file_reading}
use Rattle.format.specs.Load.{Nine, records_of, tables_of, used, fits, ending, loading_within, loading, laid, load}
use Rattle.format.specs.Exam.{passing, examining, examine, passing_single, examining_single, examine_one}
use Rattle.format.specs.Run.{following, Followed, follow}
use Rattle.format.proofs.Least.{least_iff}
use Rattle.format.proofs.Answers.{ok_refused, refused_same, Refuses, answered, tested}
use Rattle.laws.proofs.Numbers.{Among, free_numbers, record_numbers, condition_numbers, further}
use Rattle.laws.proofs.Endings.{free_ends}
use Rattle.laws.proofs.Refusals.{laid_refuses, passing_refuses, single_refuses, behind_refuses}
use Rattle.laws.proofs.Unlimited as free
use Rattle.laws.proofs.Cut.{Beyond, Cut, whole, beyond, beyond_more, cut_beyond, Allowed, reading_cut}
use Rattle.laws.proofs.Allowance.{fits_few, bytes_29, cut_load, refused_load, refused_follow, desktop_loading, larger_loading}

-- "the file .. is beyond the caller's allowance but within the desktop's"
pub record BytesBeyond (f : List ℕ) (a : Allowance) : Type 0 where
  pub beyond : a.bytes < length f
  pub within : length f ≤ desktop.bytes

-- "its record number is beyond the caller's allowance", and what is read up to there has its rows: no more than 1,024 records, so "within the desktop's"
pub record RecordsBeyond (f : List ℕ) (m : Nine) (a : Allowance) : Type 0 where
  pub beyond : a.records < length (records_of (free.file_reading f).it)
  pub room : fits 1024 m (used (tables_of (file_reading f (granted a)).it)) ≡ true

module _ (f : List ℕ) (m : Nine) where
  -- without an allowance a load has no 29
  free_not_29 : ¬ (free.loading f m ≡ refused 29)
  unfolding free.loading ending
  free_not_29 q =
      let p = free.file_reading f in
      let R : ℕ → Type 0 = Among (14 ∷ free_numbers) in
      subst (Refuses R) q
      (tested _ _ (fits 1024 m (used (tables_of p.it))) _ 14 tt
      (λ _. answered _ _ (Refuses R) p.end _ _ (free_ends f) (λ _ _. tt) (further free_numbers (14 ∷ free_numbers) tt)))

  module _ (a : Allowance) where
    -- an answer that is refused, and what refused it
    load_loading : (e : ℕ) → (load f m a).answer ≡ refused e → loading f m a ≡ refused e
    unfolding load
    load_loading e q = by_load (loading f m a) refl
      where
        by_load : (x : Answer Content) → loading f m a ≡ x → loading f m a ≡ refused e
        by_load (ok c) r = absurd (ok_refused (sym (rw r at q)))
        by_load (refused n) r = r ∙ ap refused (refused_same (sym (refused_load f m a n r) ∙ q))

    -- what is made of a file that loads by numbers without 29 has none of its own
    bound_29 : (ns : List ℕ) → ¬ Among ns 29 → (k : Content → Answer Content) → ((c : Content) → Refuses (Among ns) (k c))
        → (laid m (bind (loading f m a) k)).answer ≡ refused 29 → (load f m a).answer ≡ refused 29
    unfolding load
    bound_29 ns none_has k h e = by_load (loading f m a) refl
      where
        by_load : (x : Answer Content) → loading f m a ≡ x → (load f m a).answer ≡ refused 29
        by_load (ok c) r = absurd (none_has (subst (Refuses (Among ns)) (rw r at e) (laid_refuses m (Among ns) (k c) (h c))))
        by_load (refused n) r = rw r (rw r at e)

    -- so an examination has none
    pub examine_29 : (q : List ℕ) → (examine f m a q).answer ≡ refused 29 → (load f m a).answer ≡ refused 29
    unfolding examine examining
    examine_29 q e = bound_29 condition_numbers (λ z. z) (passing q f) (passing_refuses f q) e

    -- nor has that of a single record
    pub single_29 : (q : List ℕ) (i : ℕ) → (examine_one f m a q i).answer ≡ refused 29 → (load f m a).answer ≡ refused 29
    unfolding examine_one examining_single
    single_29 q i e = bound_29 (22 ∷ record_numbers) (λ z. z) (passing_single q i f) (single_refuses f q i) e

    -- nor has a run
    pub follow_29 : (q : List ℕ) (n : ℕ) (bs : List ℕ) → (follow f m a q n bs).answer ≡ refused 29 → (load f m a).answer ≡ refused 29
    unfolding follow
    follow_29 q n bs e = by_load (loading f m a) refl
      where
        R : ℕ → Type 0
        R = Among (14 ∷ 21 ∷ condition_numbers)

        by_load : (x : Answer Content) → loading f m a ≡ x → (load f m a).answer ≡ refused 29
        by_load (ok c) r =
            absurd (subst (Refuses R) e
            (answered _ _ (λ (x : Followed). Refuses R x.answer) (following f m a q n bs) _ _ (behind_refuses f m a q c r n bs) (λ _ _. tt) (λ _ k. k)))
        by_load (refused k) r = refused_load f m a k r ∙ ap refused (refused_same (sym (refused_follow f m a k r q n bs) ∙ e))

    by_bytes : BytesBeyond f a ⊎ Allowed f (granted a).bytes
    by_bytes = go (leb (length f) a.bytes) refl (leb (length f) 65536) refl
      where
        go : (s : Bool) → leb (length f) a.bytes ≡ s → (t : Bool) → leb (length f) 65536 ≡ t → BytesBeyond f a ⊎ Allowed f (granted a).bytes
        go true p t q = inr (λ b h. let g = (least_iff (length f) a.bytes 65536).1 (leb-true _ _ p, h) in omega arith)
        go false p true q = inl (record { beyond = leb-false _ _ p; within = leb-true _ _ q })
        go false p false q = inr (λ b h. let g = leb-false (length f) 65536 q in omega arith)

    bytes_there : BytesBeyond f a → loading f m a ≡ refused 29
    bytes_there b =
        let l = ((least_iff (granted a).bytes a.bytes 65536).0 (le_refl _)).0 in
        bytes_29 f m a (omega arith) b.within

    records_there : Beyond (granted a).records (file_reading f (granted a)) (free.file_reading f) → loading f m a ≡ refused 29 → RecordsBeyond f m a
    records_there b q = go (fits 1024 m (used (tables_of (file_reading f (granted a)).it))) refl (sym (cut_load f m a b) ∙ q)
      where
        -- a number below the desktop's is the caller's
        caller : (t : Bool) → cond t a.records 1024 < 1024 → a.records ≤ cond t a.records 1024
        caller true h = le_refl _
        caller false h = absurd (omega arith)

        go : (t : Bool) → fits 1024 m (used (tables_of (file_reading f (granted a)).it)) ≡ t
            → ◌≡◌ {A = Answer Content} (cond t (refused 29) (refused 14)) (refused 29) → RecordsBeyond f m a
        go false e z = absurd (let k = refused_same z in omega arith)
        go true e z =
            let few = (fits_few m (file_reading f (granted a)).it e).0 in
            let n = beyond_more (granted a).records (file_reading f (granted a)) (free.file_reading f) b in
            let k = caller (leb a.records 1024) (omega (arith, b.records)) in
            record { beyond = omega arith; room = e }

    -- "29 when the file or its record number is beyond the caller's allowance but within the desktop's"
    pub load_29 : (load f m a).answer ≡ refused 29 ↔ (BytesBeyond f a ⊎ RecordsBeyond f m a)
    unfolding loading_within free.loading
    load_29 = (λ q. there (load_loading 29 q) by_bytes, λ x. refused_load f m a 29 (back x by_bytes))
      where
        there : loading f m a ≡ refused 29 → BytesBeyond f a ⊎ Allowed f (granted a).bytes → BytesBeyond f a ⊎ RecordsBeyond f m a
        there q (inl b) = inl b
        there q (inr x) = by_cut (reading_cut f (granted a) x)
          where
            by_cut : Cut (granted a).records (file_reading f (granted a)) (free.file_reading f) → BytesBeyond f a ⊎ RecordsBeyond f m a
            by_cut (whole e h) = absurd (free_not_29 (rw e at q))
            by_cut (beyond b) = inr (records_there b q)

        back : BytesBeyond f a ⊎ RecordsBeyond f m a → BytesBeyond f a ⊎ Allowed f (granted a).bytes → loading f m a ≡ refused 29
        back (inl b) y = bytes_there b
        back (inr x) (inl b) = bytes_there b
        back (inr x) (inr y) =
            let l = ((least_iff (granted a).records a.records 1024).0 (le_refl _)).0 in
            let h = x.beyond in
            let b = cut_beyond (granted a).records (file_reading f (granted a)) (free.file_reading f) (reading_cut f (granted a) y) (omega arith) in
            cut_load f m a b ∙ rw x.room

    -- under the desktop's allowance, or a larger one, there is no 29
    module _ (w : Within desktop a) where
      pub never_29_desktop : ¬ ((load f m a).answer ≡ refused 29)
      never_29_desktop q = free_not_29 (sym (larger_loading f m a w ∙ desktop_loading f m) ∙ load_loading 29 q)

      pub never_29_examine : (q : List ℕ) → ¬ ((examine f m a q).answer ≡ refused 29)
      never_29_examine q e = never_29_desktop (examine_29 q e)

      pub never_29_single : (q : List ℕ) (i : ℕ) → ¬ ((examine_one f m a q i).answer ≡ refused 29)
      never_29_single q i e = never_29_desktop (single_29 q i e)

      pub never_29_follow : (q : List ℕ) (n : ℕ) (bs : List ℕ) → ¬ ((follow f m a q n bs).answer ≡ refused 29)
      never_29_follow q n bs e = never_29_desktop (follow_29 q n bs e)
