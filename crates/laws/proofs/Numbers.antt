-- The numbers by which each call may refuse, as lists, and a number that is one of a list.
-- Assumes nothing.
use Prim.Native.Nat.{ℕ, zero, suc, ◌≤◌}
use native.Mathlib.Omega.{arith}
use mathlib.Core.Path.{◌≡◌, refl, sym, subst}
use mathlib.Core.Bool.{Bool, true, false, ◌&&◌}
use mathlib.Core.List.{List, [], ◌∷◌, ◌++◌}
use lib.Dec.{T, eqb}
use lib.Ieee.Fits.{and_l, and_r}
use borrow.Author.Tests.{eqb-true}
use Rattle.format.specs.Bytes.{one_of}

-- a number is one of a list, by a test that is computed
abbrev pub Among : List ℕ → ℕ → Type 0
Among ns e = T (one_of ns e)

-- a file's tests, in their order
abbrev pub test_numbers : List ℕ
test_numbers = 1 ∷ 2 ∷ 27 ∷ 28 ∷ 3 ∷ 4 ∷ []

-- the reading of sections
abbrev pub section_numbers : List ℕ
section_numbers = 5 ∷ 6 ∷ 7 ∷ 8 ∷ 9 ∷ 10 ∷ 11 ∷ 12 ∷ 13 ∷ []

-- the reading of a file without an allowance, and under one
abbrev pub free_numbers : List ℕ
free_numbers = test_numbers ++ section_numbers

abbrev pub reading_numbers : List ℕ
reading_numbers = 29 ∷ free_numbers

-- a load, an examination, that of a single record, follow
abbrev pub load_numbers : List ℕ
load_numbers = 14 ∷ reading_numbers

abbrev pub record_numbers : List ℕ
record_numbers = 16 ∷ 17 ∷ 18 ∷ 19 ∷ 20 ∷ 25 ∷ 32 ∷ []

abbrev pub condition_numbers : List ℕ
condition_numbers = 15 ∷ record_numbers

abbrev pub examine_numbers : List ℕ
examine_numbers = load_numbers ++ condition_numbers

abbrev pub single_numbers : List ℕ
single_numbers = load_numbers ++ 22 ∷ record_numbers

abbrev pub follow_numbers : List ℕ
follow_numbers = 21 ∷ examine_numbers

-- all of a list are among another
abbrev pub within : List ℕ → List ℕ → Bool
within [] ms = true
within (n ∷ ns) ms = one_of ms n && within ns ms

pub further : (ns ms : List ℕ) → T (within ns ms) → (e : ℕ) → Among ns e → Among ms e
further [] ms t e x = absurd x
further (n ∷ ns) ms t e x = go (eqb e n) refl (further ns ms (and_r (one_of ms n) (within ns ms) t) e)
  where
    go : (b : Bool) → eqb e n ≡ b → (Among ns e → Among ms e) → Among ms e
    go true h ih = subst (Among ms) (sym (eqb-true e n h)) (and_l (one_of ms n) (within ns ms) t)
    go false h ih = ih (rw h at x)

-- a number of a list without 0 is above it
pub above_zero : (ns : List ℕ) → one_of ns 0 ≡ false → (e : ℕ) → Among ns e → 1 ≤ e
above_zero ns z zero x = absurd (rw z at x)
above_zero ns z (suc e) x = omega arith
