-- The examination of a file is exact: it passes exactly the loaded files that meet none of 15 to 20, 25 and 32, and a number that it answers for a loaded
-- file is that of a condition that is met, the first in the papers' order; so is that of a single record, paper 02, i).
-- Assumes nothing.
use Prim.Native.Nat.{ℕ, zero, suc, ◌<◌, suc-le-suc}
use native.Mathlib.Nat.{le_of_suc-le-suc}
use native.Mathlib.Omega.{arith}
use mathlib.Core.Path.{◌≡◌, refl, sym, ap, subst, ◌∙◌}
use mathlib.Core.Logic.{◌↔◌}
use mathlib.Core.List.{List, [], ◌∷◌}
use lib.Dec.{T_not}
use lib.ListN.{length, get_or}
use borrow.Author.Tests.{ne_eqb}
use Rattle.format.specs.Bytes.{Answer, ok, refused, refuse, first}
use Rattle.format.specs.Allowance.{Allowance}
use Rattle.format.specs.File.{Content}
use Rattle.format.specs.Load.{Nine, counts, loading, laid, load}
use Rattle.format.specs.Tree.{Whole, whole}
use Rattle.format.specs.Pattern.{Record, Pattern, pattern_of, rec_at, blank, rlens}
use Rattle.format.specs.Exam.{RecordMeets, RecordPasses, Meets, Passes, exam16, exam32, exam1718, exam19, exam20, examine_record, examine_all, examine_pattern}
use Rattle.format.specs.Exam.{unless_met, passing, examining, examine, examine_single, passing_single, examining_single, examine_one}
use Rattle.format.proofs.Answers.{ok_refused, refused_same, refuse_hit, refuse_zero}
use Rattle.runs.proofs.Tree.{whole_iff}
use Rattle.runs.proofs.Refusal.{hit_rec, single_inside, single_iff, passes_iff, refusal_met}

-- a file that is not loaded is refused by the load's number
pub load_refused : (f : List ℕ) (m : Nine) (a : Allowance) (q : List ℕ) (n : ℕ) → loading f m a ≡ refused n → (examine f m a q).answer ≡ refused n
unfolding examine examining
load_refused f m a q n e = rw e

-- i): "A call loads the file and examines a single record": so it answers what the load does, whatever record it names, and leaves the load's tables
pub single_load_refused : (f : List ℕ) (m : Nine) (a : Allowance) (q : List ℕ) (i n : ℕ) → loading f m a ≡ refused n → examine_one f m a q i ≡ load f m a
unfolding examine_one examining_single load
single_load_refused f m a q i n e = rw e

-- The first in order: 15 before all others; else the first record that has one, and in it the first of 16 and 25 over the whole record, 32 over
-- the whole record, 17 and 18 by instruction, 19, 20.
pub data InRecord (q : List ℕ) (r : Record) (n : ℕ) : Type 0 where
  by16 : exam16 r.code ≡ n → InRecord q r n
  by32 : exam16 r.code ≡ 0 → exam32 q r.code ≡ n → InRecord q r n
  by1718 : exam16 r.code ≡ 0 → exam32 q r.code ≡ 0 → exam1718 r ≡ n → InRecord q r n
  by19 : exam16 r.code ≡ 0 → exam32 q r.code ≡ 0 → exam1718 r ≡ 0 → exam19 r ≡ n → InRecord q r n
  by20 : exam16 r.code ≡ 0 → exam32 q r.code ≡ 0 → exam1718 r ≡ 0 → exam19 r ≡ 0 → exam20 r ≡ n → InRecord q r n

pub data InOrder (q : List ℕ) (p : Pattern) (n : ℕ) : Type 0 where
  by15 : ¬ Whole (rlens p) → n ≡ 15 → InOrder q p n
  by_record : Whole (rlens p) → (i : ℕ) → i < length p → ((j : ℕ) → j < i → examine_record q (rec_at p j) ≡ 0) → InRecord q (rec_at p i) n → InOrder q p n

-- the first refusal of two, by which it is
data Which (a b n : ℕ) : Type 0 where
  one : a ≡ suc n → Which a b n
  two : a ≡ 0 → b ≡ suc n → Which a b n

which : (a b n : ℕ) → first a b ≡ suc n → Which a b n
which zero b n e = two refl e
which (suc a) b n e = one e

pub in_record : (q : List ℕ) (r : Record) (n : ℕ) → examine_record q r ≡ suc n → InRecord q r (suc n)
unfolding examine_record
in_record q r n e = a (which (exam16 r.code) (first (exam32 q r.code) (first (exam1718 r) (first (exam19 r) (exam20 r)))) n e)
  where
    d : exam16 r.code ≡ 0 → exam32 q r.code ≡ 0 → exam1718 r ≡ 0 → Which (exam19 r) (exam20 r) n → InRecord q r (suc n)
    d x w y (one e) = by19 x w y e
    d x w y (two z e) = by20 x w y z e

    c : exam16 r.code ≡ 0 → exam32 q r.code ≡ 0 → Which (exam1718 r) (first (exam19 r) (exam20 r)) n → InRecord q r (suc n)
    c x w (one e) = by1718 x w e
    c x w (two y e) = d x w y (which (exam19 r) (exam20 r) n e)

    b : exam16 r.code ≡ 0 → Which (exam32 q r.code) (first (exam1718 r) (first (exam19 r) (exam20 r))) n → InRecord q r (suc n)
    b x (one e) = by32 x e
    b x (two w e) = c x w (which (exam1718 r) (first (exam19 r) (exam20 r)) n e)

    a : Which (exam16 r.code) (first (exam32 q r.code) (first (exam1718 r) (first (exam19 r) (exam20 r)))) n → InRecord q r (suc n)
    a (one e) = by16 e
    a (two x e) = b x (which (exam32 q r.code) (first (exam1718 r) (first (exam19 r) (exam20 r))) n e)

record At (q : List ℕ) (rs : List Record) (n : ℕ) : Type 0 where
  i : ℕ
  inside : i < length rs
  before : (j : ℕ) → j < i → examine_record q (get_or rs j blank) ≡ 0
  there : examine_record q (get_or rs i blank) ≡ suc n

first_record : (q : List ℕ) (rs : List Record) (n : ℕ) → examine_all q rs ≡ suc n → At q rs n
unfolding examine_all
first_record q [] n e = absurd (omega arith)
first_record q (r ∷ rs) n e = go (which (examine_record q r) (examine_all q rs) n e) (first_record q rs n)
  where
    zeros : (k : ℕ) → examine_record q r ≡ 0 → ((j : ℕ) → j < k → examine_record q (get_or rs j blank) ≡ 0)
        → (j : ℕ) → j < suc k → examine_record q (get_or (r ∷ rs) j blank) ≡ 0
    zeros k z h zero g = z
    zeros k z h (suc j) g = h j (le_of_suc-le-suc g)

    go : Which (examine_record q r) (examine_all q rs) n → (examine_all q rs ≡ suc n → At q rs n) → At q (r ∷ rs) n
    go (one e) ih = record { i = 0; inside = omega arith; before = λ j g. absurd (omega arith); there = e }
    go (two z e) ih = let w = ih e in record { i = suc w.i; inside = suc-le-suc w.inside; before = zeros w.i z w.before; there = w.there }

pub in_order : (q : List ℕ) (p : Pattern) (n : ℕ) → examine_pattern q p ≡ suc n → InOrder q p (suc n)
unfolding examine_pattern
in_order q p n e = go (which (refuse 15 (whole (rlens p))) (examine_all q p) n e)
  where
    go : Which (refuse 15 (whole (rlens p))) (examine_all q p) n → InOrder q p (suc n)
    go (one e) =
        let h = refuse_hit 15 n (whole (rlens p)) e in
        by15 (λ w. T_not (whole (rlens p)) h.1 ((whole_iff (rlens p)).1 w)) (sym h.0)
    go (two z e) =
        let w = first_record q p n e in
        by_record ((whole_iff (rlens p)).0 (refuse_zero 14 (whole (rlens p)) z)) w.i w.inside w.before (in_record q (rec_at p w.i) n w.there)

-- What was loaded is answered where its number k is 0, else refused by k.
module _ (c : Content) (k : ℕ) where
  pub by_number : (P : Answer Content → Type 0) → (k ≡ 0 → P (ok c)) → ((n : ℕ) → k ≡ suc n → P (refused (suc n))) → P (unless_met k c)
  by_number P pass refuses = go k refl
    where
      go : (j : ℕ) → k ≡ j → P (unless_met j c)
      go zero e = pass e
      go (suc n) e = rw (ne_eqb (suc n) 0 (λ (z : suc n ≡ 0). omega arith)) (refuses n e)

  pub refused_iff : (n : ℕ) → (unless_met k c ≡ refused (suc n)) ↔ (k ≡ suc n)
  refused_iff n = (
    by_number (λ x. x ≡ refused (suc n) → k ≡ suc n) (λ _ e. absurd (ok_refused (sym e))) (λ j z e. z ∙ refused_same e),
    λ e. by_number (λ x. x ≡ refused (suc n)) (λ z. absurd (omega arith)) (λ j z. ap refused (sym z ∙ e)),
  )

  -- the same of an answer, which has the rows used
  module _ (m : Nine) where
    pub answered_zero : ((laid m (unless_met k c)).answer ≡ ok (counts c)) ↔ (k ≡ 0)
    answered_zero = (by_number (λ x. (laid m x).answer ≡ ok (counts c) → k ≡ 0) (λ z _. z) (λ _ _ e. absurd (ok_refused e)), λ z. rw z)

    pub answered_number : (R : ℕ → Type 0) → ((j : ℕ) → k ≡ suc j → R (suc j)) → (n : ℕ) → (laid m (unless_met k c)).answer ≡ refused n → R n
    answered_number R h n =
        by_number (λ x. (laid m x).answer ≡ refused n → R n) (λ _ e. absurd (ok_refused (sym e))) (λ j z e. subst R (refused_same e) (h j z))

-- of a file that loads
module _ (f : List ℕ) (m : Nine) (a : Allowance) (q : List ℕ) (c : Content) (l : loading f m a ≡ ok c) where
  pub examine_is : examine f m a q ≡ laid m (unless_met (examine_pattern q (pattern_of f c)) c)
  unfolding examine examining passing
  examine_is = rw l

  -- a number is that of a condition that is met
  pub refused_meets : (n : ℕ) → (examine f m a q).answer ≡ refused n → Meets q (pattern_of f c) n
  refused_meets n e = let p = pattern_of f c in answered_number c (examine_pattern q p) m (Meets q p) (refusal_met q p) n (rw examine_is at e)

  -- and the first in order
  pub refused_first : (n : ℕ) → (examine f m a q).answer ≡ refused n → InOrder q (pattern_of f c) n
  refused_first n e = let p = pattern_of f c in answered_number c (examine_pattern q p) m (InOrder q p) (in_order q p) n (rw examine_is at e)

  -- it passes exactly where none of 15 to 20, 25 and 32 is met, and answers the rows used
  pub passes_exactly : ((examine f m a q).answer ≡ ok (counts c)) ↔ Passes q (pattern_of f c)
  passes_exactly =
      let p = pattern_of f c in
      let z = answered_zero c (examine_pattern q p) m in
      (λ e. (passes_iff q p).0 (z.0 (rw examine_is at e)), λ h. rw examine_is (z.1 ((passes_iff q p).1 h)))

  -- i): "a single record, without 15"
  module _ (i : ℕ) where
    pub single_is : examine_one f m a q i ≡ laid m (unless_met (examine_single q i (pattern_of f c)) c)
    unfolding examine_one examining_single passing_single
    single_is = rw l

    -- it passes exactly where the record is there and meets none of 16 to 20, 25 and 32
    pub single_passes_exactly : ((examine_one f m a q i).answer ≡ ok (counts c)) ↔ ((i < length (pattern_of f c)) × RecordPasses q (rec_at (pattern_of f c) i))
    single_passes_exactly =
        let p = pattern_of f c in
        let z = answered_zero c (examine_single q i p) m in
        (λ e. (single_iff q i p).0 (z.0 (rw single_is at e)), λ h. rw single_is (z.1 ((single_iff q i p).1 h)))

    -- a number of a record that is there is that of a condition that it meets, and the first in order
    module _ (h : i < length (pattern_of f c)) (n : ℕ) (e : (examine_one f m a q i).answer ≡ refused n) where
      pub single_refused_meets : RecordMeets q (rec_at (pattern_of f c) i) n
      single_refused_meets =
          let r = rec_at (pattern_of f c) i in
          answered_number c (examine_record q r) m (RecordMeets q r) (hit_rec q r) n (rw (single_is, single_inside q i (pattern_of f c) h) at e)

      pub single_refused_first : InRecord q (rec_at (pattern_of f c) i) n
      single_refused_first =
          let r = rec_at (pattern_of f c) i in
          answered_number c (examine_record q r) m (InRecord q r) (in_record q r) n (rw (single_is, single_inside q i (pattern_of f c) h) at e)
