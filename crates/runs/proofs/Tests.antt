-- Laws of the tests that an examination is made of.
-- Assumes nothing.
use Prim.Native.Nat.{ℕ, zero, suc, ◌+◌, ◌<◌, suc-le-suc}
use native.Mathlib.Nat.{le_of_suc-le-suc, add-zero, add-suc, suc-add}
use native.Mathlib.Omega.{arith}
use mathlib.Core.Path.{◌≡◌}
use mathlib.Core.Logic.{◌⊎◌, inl, inr}
use mathlib.Core.List.{List, [], ◌∷◌}
use lib.Dec.{T}
use lib.ListN.{length, get_or}
use Rattle.format.specs.Insn.{rest}
use Rattle.format.specs.Pattern.{reach}
use Rattle.format.specs.Exam.{first_at, first_of}
use Rattle.format.proofs.Answers.{first_zero, first_hit}

pub first_at_zero : (f : ℕ → ℕ) (bs : List ℕ) (left o : ℕ) → first_at f bs left o ≡ 0 → (j : ℕ) → T (reach bs left j) → f (o + j) ≡ 0
unfolding first_at reach
first_at_zero f [] left o e j t = absurd t
first_at_zero f (b ∷ bs) zero o e zero t = rw add-zero (first_zero (f o) _ e).0
first_at_zero f (b ∷ bs) zero o e (suc j) t = rw (add-suc, ← suc-add) (first_at_zero f bs (rest b bs) (suc o) (first_zero (f o) _ e).1 j t)
first_at_zero f (b ∷ bs) (suc left) o e zero t = absurd t
first_at_zero f (b ∷ bs) (suc left) o e (suc j) t = rw (add-suc, ← suc-add) (first_at_zero f bs left (suc o) e j t)

-- an instruction where the test gives n
pub record Hit (f : ℕ → ℕ) (bs : List ℕ) (left o n : ℕ) : Type 0 where
  pub at : ℕ
  pub starts : T (reach bs left at)
  pub gives : f (o + at) ≡ n

pub first_at_hit : (f : ℕ → ℕ) (bs : List ℕ) (left o n : ℕ) → first_at f bs left o ≡ suc n → Hit f bs left o (suc n)
unfolding first_at reach
first_at_hit f [] left o n e = absurd (omega arith)
first_at_hit f (b ∷ bs) zero o n e = go (first_hit (f o) _ n e) (first_at_hit f bs (rest b bs) (suc o) n)
  where
    go : (f o ≡ suc n) ⊎ (first_at f bs (rest b bs) (suc o) ≡ suc n)
        → (first_at f bs (rest b bs) (suc o) ≡ suc n → Hit f bs (rest b bs) (suc o) (suc n))
        → Hit f (b ∷ bs) zero o (suc n)
    go (inl h) ih = record { at = 0; starts = tt; gives = rw add-zero h }
    go (inr h) ih = let r = ih h in record { at = suc r.at; starts = r.starts; gives = rw (add-suc, ← suc-add) r.gives }
first_at_hit f (b ∷ bs) (suc left) o n e =
    let r = first_at_hit f bs left (suc o) n e in
    record { at = suc r.at; starts = r.starts; gives = rw (add-suc, ← suc-add) r.gives }

pub first_of_zero : (f : ℕ → ℕ) (l : List ℕ) → first_of f l ≡ 0 → (i : ℕ) → i < length l → f (get_or l i 0) ≡ 0
unfolding first_of
first_of_zero f [] e i h = omega arith
first_of_zero f (x ∷ l) e zero h = (first_zero (f x) _ e).0
first_of_zero f (x ∷ l) e (suc i) h = first_of_zero f l (first_zero (f x) _ e).1 i (le_of_suc-le-suc h)

-- an entry where the test gives n
pub record HitOf (f : ℕ → ℕ) (l : List ℕ) (n : ℕ) : Type 0 where
  pub at : ℕ
  pub inside : at < length l
  pub gives : f (get_or l at 0) ≡ n

pub first_of_hit : (f : ℕ → ℕ) (l : List ℕ) (n : ℕ) → first_of f l ≡ suc n → HitOf f l (suc n)
unfolding first_of
first_of_hit f [] n e = absurd (omega arith)
first_of_hit f (x ∷ l) n e = go (first_hit (f x) _ n e) (first_of_hit f l n)
  where
    go : (f x ≡ suc n) ⊎ (first_of f l ≡ suc n) → (first_of f l ≡ suc n → HitOf f l (suc n)) → HitOf f (x ∷ l) (suc n)
    go (inl h) ih = record { at = 0; inside = omega arith; gives = h }
    go (inr h) ih = let r = ih h in record { at = suc r.at; inside = suc-le-suc r.inside; gives = r.gives }
