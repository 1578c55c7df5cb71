-- What the test for zeros says of the bytes, one by one.
-- Assumes nothing.
use Prim.Native.Nat.{ℕ, zero, suc, ◌+◌, ◌<◌}
use native.Mathlib.Nat.{add-zero}
use native.Mathlib.Omega.{arith}
use mathlib.Core.Path.{◌≡◌, refl}
use mathlib.Core.Bool.{Bool, true, false, cond}
use mathlib.Core.List.{List}
use lib.Dec.{eqb}
use borrow.Author.Tests.{eqb-false, ne_eqb}
use Rattle.format.specs.Bytes.{byte, no_zero}
use Rattle.format.proofs.Answers.{false_true}

-- none of the n bytes from `at` on is zero
abbrev pub NoZero : List ℕ → ℕ → ℕ → Type 0
NoZero f n at = (i : ℕ) → i < n → ¬ (byte f (at + i) ≡ 0)

module _ (f : List ℕ) where
  pub no_zero_lem : (n at : ℕ) → no_zero f n at ≡ true → NoZero f n at
  unfolding no_zero
  no_zero_lem zero at e = λ i h. absurd (omega arith)
  no_zero_lem (suc n) at e = go (eqb (byte f at) 0) refl e (no_zero_lem n (at + 1))
    where
      go : (b : Bool) → eqb (byte f at) 0 ≡ b → cond b false (no_zero f n (at + 1)) ≡ true
          → (no_zero f n (at + 1) ≡ true → NoZero f n (at + 1)) → NoZero f (suc n) at
      go true q e ih i h = absurd (false_true e)
      go false q e ih zero h = rw add-zero (eqb-false (byte f at) 0 q)
      go false q e ih (suc i) h = let k : at + suc i ≡ at + 1 + i = omega arith in rw k (ih e i (omega arith))

  pub no_zero_is : (n at : ℕ) → NoZero f n at → no_zero f n at ≡ true
  unfolding no_zero
  no_zero_is zero at h = refl
  no_zero_is (suc n) at h =
      let z : ¬ (byte f at ≡ 0) = rw add-zero at (h 0 (omega arith)) in
      rw (ne_eqb (byte f at) 0 z)
      (no_zero_is n (at + 1) (λ i g. let k : at + 1 + i ≡ at + suc i = omega arith in rw k (h (suc i) (omega arith))))
