-- A file's tests by their outcomes: which number the first that does not pass gives, as one table.
-- Assumes nothing.
use Prim.Native.Nat.{ℕ}
use native.Mathlib.Nat.{le_refl}
use native.Mathlib.Omega.{arith}
use mathlib.Core.Path.{◌≡◌, refl, sym, subst}
use mathlib.Core.Logic.{◌↔◌}
use mathlib.Core.Bool.{Bool, true, false, not, cond, ◌&&◌, ◌||◌, and-false}
use mathlib.Core.List.{List, ◌∷◌}
use lib.Dec.{T, leb, eqb, eqb→eq, eqb_refl}
use lib.ListN.{length}
use borrow.Author.Tests.{le-leb, ne_eqb}
use Rattle.format.specs.Bytes.{refuse, first}
use Rattle.format.specs.File.{ident_is_rite, stated_size, major_is04, file_refusal}
use Rattle.laws.proofs.Unlimited as free
use Rattle.laws.proofs.Cut.{tests_same}
use Rattle.laws.proofs.Numbers.{Among, test_numbers}

-- paper 01's tests, 1 to 4, with h)'s 29 behind 1
abbrev pub without : Bool → Bool → Bool → Bool → Bool → ℕ
without small within headed major long = first (refuse 1 small) (first (refuse 29 within) (first (refuse 2 headed) (first (refuse 3 major) (refuse 4 long))))

-- The number k of a file's tests is 0 or one of theirs; when it is 29, when 27 and when 28; and it is that of the other tests where it is
-- neither of the last two.
pub record Outcome (k : ℕ) (small within headed rite sized major long : Bool) : Type 0 where
  pub among : Among (0 ∷ 29 ∷ test_numbers) k
  pub at_29 : eqb k 29 ≡ (small && not within)
  pub at_27 : eqb k 27 ≡ (small && within && headed && not rite)
  pub at_28 : eqb k 28 ≡ (small && within && headed && rite && not sized)
  pub else : cond (eqb k 27 || eqb k 28) k (without small within headed major long) ≡ k

outcomes : (a b c d g h k : Bool)
    → Outcome (first (refuse 1 a) (first (refuse 29 b) (first (refuse 2 c) (first (refuse 27 d) (first (refuse 28 g) (first (refuse 3 h) (refuse 4 k))))))) a b c d g h k
outcomes false b c d g h k = record { among = tt; at_29 = refl; at_27 = refl; at_28 = refl; else = refl }
outcomes true false c d g h k = record { among = tt; at_29 = refl; at_27 = refl; at_28 = refl; else = refl }
outcomes true true false d g h k = record { among = tt; at_29 = refl; at_27 = refl; at_28 = refl; else = refl }
outcomes true true true false g h k = record { among = tt; at_29 = refl; at_27 = refl; at_28 = refl; else = refl }
outcomes true true true true false h k = record { among = tt; at_29 = refl; at_27 = refl; at_28 = refl; else = refl }
outcomes true true true true true false k = record { among = tt; at_29 = refl; at_27 = refl; at_28 = refl; else = refl }
outcomes true true true true true true false = record { among = tt; at_29 = refl; at_27 = refl; at_28 = refl; else = refl }
outcomes true true true true true true true = record { among = tt; at_29 = refl; at_27 = refl; at_28 = refl; else = refl }

-- where so many bytes are allowed
module _ (f : List ℕ) (allowed : ℕ) where
  pub tests_are : Outcome (file_refusal f allowed) (leb (length f) 65536) (leb (length f) allowed) (leb 20 (length f))
      (ident_is_rite f) (leb (stated_size f) (length f)) (major_is04 f) (leb 32 (length f))
  unfolding file_refusal
  tests_are = outcomes _ _ _ _ _ _ _

  -- a file's tests refuse by their numbers alone
  pub tests_among : ¬ (file_refusal f allowed ≡ 0) → Among (29 ∷ test_numbers) (file_refusal f allowed)
  tests_among z = rw (ne_eqb (file_refusal f allowed) 0 z) at tests_are.among

-- without an allowance not by 29
pub free_among : (f : List ℕ) → ¬ (free.file_refusal f ≡ 0) → Among test_numbers (free.file_refusal f)
free_among f z =
    let n = length f in
    let o = tests_are f n in
    let w = tests_same f n (λ b _. omega arith) in
    let not_29 = rw (w, le-leb n n (le_refl n), and-false) at o.at_29 in
    rw (ne_eqb (free.file_refusal f) 0 z, not_29) at (rw w at o.among)

-- a number that is k exactly where a test says so
pub number_iff : (n k : ℕ) (b : Bool) → eqb n k ≡ b → (n ≡ k) ↔ T b
number_iff n k b e = (λ q. subst T e (subst (λ (j : ℕ). T (eqb n j)) q (eqb_refl n)), λ t. eqb→eq n k (subst T (sym e) t))
