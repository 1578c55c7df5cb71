-- The first refusal of two.
-- Assumes nothing.
use Prim.Native.Nat.{ℕ, zero, suc}
use native.Mathlib.Omega.{arith}
use mathlib.Core.Path.{◌≡◌, refl}
use mathlib.Core.Bool.{Bool, true, false, ◌&&◌}
use Rattle.format.specs.Bytes.{refuse, first}

pub first_none : (a b : ℕ) → a ≡ 0 → first a b ≡ b
first_none zero b e = refl
first_none (suc a) b e = absurd (omega arith)

pub first_some : (a b : ℕ) → (a ≡ 0 → ⊥) → a ≡ first a b
first_some zero b z = absurd (z refl)
first_some (suc a) b z = refl

pub first_assoc : (a b d : ℕ) → first (first a b) d ≡ first a (first b d)
first_assoc zero b d = refl
first_assoc (suc a) b d = refl

pub first_last : (a : ℕ) → first a 0 ≡ a
first_last zero = refl
first_last (suc a) = refl

-- two tests by one number
pub refuse_both : (k : ℕ) (x y : Bool) (b : ℕ) → first (refuse (suc k) x) (first (refuse (suc k) y) b) ≡ first (refuse (suc k) (x && y)) b
refuse_both k true y b = refl
refuse_both k false y b = refl
