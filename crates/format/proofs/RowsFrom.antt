-- `rows_from` as a list: its length, its elements and its map, and as a loop from row j up to e reads it; and so the rows of a lent line table.
-- Assumes nothing.
use Prim.Native.Nat.{ℕ, zero, suc, ◌+◌, ◌-◌, ◌/◌, ◌≤◌, ◌<◌}
use native.Mathlib.Nat.{le_of_suc-le-suc, add-zero, add-suc, suc-add, zero-add}
use native.Mathlib.Numerals.{add-one}
use native.Mathlib.Omega.{arith}
use mathlib.Core.Path.{◌≡◌, refl, ap, ◌∙◌}
use mathlib.Core.List.{List, [], ◌∷◌, map}
use lib.ListN.{length, get_or}
use Rattle.format.specs.Rows.{line_row}
use Rattle.format.specs.Line.{entry, rows_from, line_row_at, map_of}

module _ {R : Type 0} (f : ℕ → R) where
  pub rows_from_length : (i n : ℕ) → length (rows_from f i n) ≡ n
  unfolding rows_from
  rows_from_length i zero = refl
  rows_from_length i (suc n) = ap suc (rows_from_length (suc i) n)

  pub rows_from_at : (i n j : ℕ) (d : R) → j < n → get_or (rows_from f i n) j d ≡ f (i + j)
  unfolding rows_from
  rows_from_at i zero j d h = absurd (omega arith)
  rows_from_at i (suc n) zero d h = rw add-zero
  rows_from_at i (suc n) (suc j) d h = rw (add-suc, ← suc-add) (rows_from_at (suc i) n j d (le_of_suc-le-suc h))

  pub rows_from_map : {B : Type 0} (g : R → B) (i n : ℕ) → map g (rows_from f i n) ≡ rows_from (λ (j : ℕ). g (f j)) i n
  unfolding rows_from
  rows_from_map g i zero = refl
  rows_from_map g i (suc n) = ap (λ (l : List _). g (f i) ∷ l) (rows_from_map g (suc i) n)

  pub rows_start : (i n e : ℕ) → e ≡ i + n → rows_from f i n ≡ rows_from f i (e - i)
  rows_start i n e q = let d : e - i ≡ n = omega arith in rw d

  pub rows_turn : (j e : ℕ) → j < e → rows_from f j (e - j) ≡ f j ∷ rows_from f (j + 1) (e - (j + 1))
  unfolding rows_from
  rows_turn j e h = let d : e - j ≡ suc (e - (j + 1)) = omega arith in rw (d, add-one)

  pub rows_end : (j e : ℕ) → e ≤ j → rows_from f j (e - j) ≡ []
  unfolding rows_from
  rows_end j e h = let d : e - j ≡ 0 = omega arith in rw d

-- a line table has an entry for every two words
pub map_length : (t : List ℕ) → length (map_of t) ≡ length t / 2
map_length t = rows_from_length (line_row_at t) 0 (length t / 2)

pub map_entry_lem : (t : List ℕ) (i : ℕ) → i < length t / 2 → entry (map_of t) i ≡ line_row_at t i
map_entry_lem t i h = rows_from_at (line_row_at t) 0 (length t / 2) i (line_row 0 0) h ∙ rw zero-add
