-- Laws of the lesser of two numbers.
-- Assumes nothing.
use Prim.Native.Nat.{ℕ, ◌≤◌}
use native.Mathlib.Nat.{le_refl}
use native.Mathlib.Omega.{arith}
use mathlib.Core.Path.{◌≡◌, refl}
use mathlib.Core.Logic.{◌↔◌, ◌⊎◌, inl, inr}
use mathlib.Core.Bool.{Bool, true, false, cond}
use lib.Dec.{leb}
use borrow.Author.Tests.{leb-true, leb-false}
use Rattle.format.specs.Allowance.{least}

-- within the lesser of two numbers is within both
pub least_iff : (k a b : ℕ) → (k ≤ least a b) ↔ ((k ≤ a) × (k ≤ b))
least_iff k a b = go (leb a b) refl
  where
    go : (t : Bool) → leb a b ≡ t → (k ≤ cond t a b) ↔ ((k ≤ a) × (k ≤ b))
    go true e = let l = leb-true a b e in (λ h. (h, omega arith), λ x. x.0)
    go false e = let l = leb-false a b e in (λ h. (omega arith, h), λ x. x.1)

-- so it is within both itself
pub least_below : (a b : ℕ) → (least a b ≤ a) × (least a b ≤ b)
least_below a b = (least_iff (least a b) a b).0 (le_refl (least a b))

-- and it is one of them
pub least_either : (a b : ℕ) → (least a b ≡ a) ⊎ (least a b ≡ b)
least_either a b = go (leb a b)
  where
    go : (t : Bool) → (cond t a b ≡ a) ⊎ (cond t a b ≡ b)
    go true = inl refl
    go false = inr refl

-- the second, where that is no larger
pub least_above : (a b : ℕ) → b ≤ a → b ≡ least a b
least_above a b h = go (leb a b) refl
  where
    go : (t : Bool) → leb a b ≡ t → b ≡ cond t a b
    go true e = let g = leb-true a b e in omega arith
    go false e = refl
