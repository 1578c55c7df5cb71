-- What the first byte of an instruction says of it: of a prefix, and of any other byte.
-- Assumes nothing.
use Prim.Native.Nat.{ℕ, ◌≤◌}
use native.Mathlib.Omega.{arith}
use mathlib.Core.Path.{◌≡◌, refl, sym, ap, ◌∙◌}
use mathlib.Core.Bool.{Bool, true, false, ◌&&◌, cond}
use lib.Dec.{leb}
use lib.ListN.{length}
use borrow.Author.Tests.{leb-true, ne_eqb}
use Rattle.format.specs.Insn.{Kind, Z, BB, B, BS, BSS, BBB, S, W, fields_by, fields, total, prefix, lead}
use Rattle.format.specs.Insn.{widens_first, widens_second, first_width, second_width, fields_from}
use Rattle.format.proofs.Answers.{false_true}

-- a prefix changes the bytes of operands, not their number
pub fields_length : (x y : ℕ) (k : Kind) → length (fields_by x y k) ≡ length (fields k)
fields_length x y Z = refl
fields_length x y BB = refl
fields_length x y B = refl
fields_length x y BS = refl
fields_length x y BSS = refl
fields_length x y BBB = refl
fields_length x y S = refl
fields_length x y W = refl

-- 0 or 1 by a test
pub at_most_one : (t : Bool) → cond t 1 0 ≤ 1
at_most_one true = omega arith
at_most_one false = omega arith

-- one or two bytes in an operand that a prefix can widen
one_or_two : (w : Bool) → (1 ≤ cond w 2 1) × (cond w 2 1 ≤ 2)
one_or_two true = (omega arith, omega arith)
one_or_two false = (omega arith, omega arith)

pub first_one_or_two : (b : ℕ) {x : ℕ} → x ≡ first_width b → (1 ≤ x) × (x ≤ 2)
first_one_or_two b e = let w = one_or_two (widens_first b) in (omega (arith, w), omega (arith, w))

pub second_one_or_two : (b : ℕ) {y : ℕ} → y ≡ second_width b → (1 ≤ y) × (y ≤ 2)
second_one_or_two b e = let w = one_or_two (widens_second b) in (omega (arith, w), omega (arith, w))

-- at most six bytes of operands
pub total_small : (x y : ℕ) (k : Kind) → x ≤ 2 → y ≤ 2 → total (fields_by x y k) ≤ 6
total_small x y Z p q = omega arith
total_small x y BB p q = omega arith
total_small x y B p q = omega arith
total_small x y BS p q = omega arith
total_small x y BSS p q = omega arith
total_small x y BBB p q = omega arith
total_small x y S p q = omega arith
total_small x y W p q = omega arith

pub fields_small : (b : ℕ) (k : Kind) → total (fields_from b k) ≤ 6
fields_small b k = total_small (first_width b) (second_width b) k (first_one_or_two b refl).1 (second_one_or_two b refl).1

-- what a byte says that is none of 115 to 117
module _ (b : ℕ) where
  pub no_prefix : (b ≡ 115 → ⊥) → (b ≡ 116 → ⊥) → (b ≡ 117 → ⊥) → prefix b ≡ false
  no_prefix x y z = go (leb 115 b) (leb b 117) refl refl
    where
      go : (p q : Bool) → leb 115 b ≡ p → leb b 117 ≡ q → (p && q) ≡ false
      go false q ep eq = refl
      go true false ep eq = refl
      go true true ep eq = absurd (omega (arith, leb-true 115 b ep, leb-true b 117 eq, x, y, z))

  pub first_else : (b ≡ 115 → ⊥) → (b ≡ 117 → ⊥) → 1 ≡ first_width b
  first_else x z = rw (ne_eqb b 115 x, ne_eqb b 117 z)

  pub second_else : (b ≡ 116 → ⊥) → (b ≡ 117 → ⊥) → 1 ≡ second_width b
  second_else y z = rw (ne_eqb b 116 y, ne_eqb b 117 z)

  module _ (e : prefix b ≡ false) where
    other : (p : ℕ) → prefix p ≡ true → b ≡ p → ⊥
    other p t q = false_true (sym e ∙ ap prefix q ∙ t)

    pub no_lead : 0 ≡ lead b
    no_lead = rw e

    pub no_first : first_width b ≡ 1
    no_first = sym (first_else (other 115 refl) (other 117 refl))

    pub no_second : second_width b ≡ 1
    no_second = sym (second_else (other 116 refl) (other 117 refl))

    pub no_widening : (k : Kind) → fields_from b k ≡ fields k
    no_widening k = rw (no_first, no_second)
