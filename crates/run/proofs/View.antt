-- The pattern that the lent tables hold, by its records; and the part of the line table that the code takes.
-- Assumes nothing.
use Prim.Native.Nat.{ℕ, zero, suc, ◌+◌, ◌-◌, ◌*◌, ◌/◌, ◌≤◌, ◌<◌}
use native.Mathlib.Nat.{add-zero, zero-add}
use native.Mathlib.Omega.{arith}
use mathlib.Core.Path.{◌≡◌, refl, ◌∙◌}
use mathlib.Core.Option.{Option}
use mathlib.Core.List.{List}
use lib.ListN.{length, get_or, take, drop, length-drop}
use lib.Seq.{length-take-le, get_or-take, get_or-drop}
use Rattle.format.specs.Line.{rows_from, line_row_at, map_of, line_at}
use Rattle.format.specs.Lookup.{record_word}
use Rattle.format.specs.Pattern.{blank, rec_at}
use Rattle.format.proofs.RowsFrom.{rows_from_length, rows_from_at}
use Rattle.exam.specs.View.{entries, record_at, pattern_at}

-- rows that are alike one by one
rows_from_same : {A : Type 0} (f g : ℕ → A) (i k n : ℕ) → ((j : ℕ) → j < n → f (i + j) ≡ g (k + j)) → rows_from f i n ≡ rows_from g k n
unfolding rows_from
rows_from_same f g i k zero h = refl
rows_from_same f g i k (suc n) h =
    let a : f i ≡ g k = rw (add-zero i, add-zero k) at (h 0 (omega arith)) in
    let b : rows_from f (suc i) n ≡ rows_from g (suc k) n = rows_from_same f g (suc i) (suc k) n (λ j l.
    let p : i + suc j ≡ suc i + j = omega arith in
    let q : k + suc j ≡ suc k + j = omega arith in
    rw (p, q) at (h (suc j) (omega arith))) in
    rw (a, b)

module _ (f recs hs ls : List ℕ) (n : ℕ) where
  pub pattern_length : length (pattern_at f recs hs ls n) ≡ n
  pattern_length = rows_from_length (record_at f recs hs ls) 0 n

  pub record_is : (r : ℕ) → r < n → rec_at (pattern_at f recs hs ls n) r ≡ record_at f recs hs ls r
  record_is r h = rw zero-add at (rows_from_at (record_at f recs hs ls) 0 n r blank h)

-- the part of the line table that is a record's map
pub map_is : (ls : List ℕ) (i n : ℕ) → (i + n) * 2 ≤ length ls → map_of (take ((i + n) * 2 - i * 2) (drop (i * 2) ls)) ≡ entries ls i n
map_is ls i n h =
    let d : (i + n) * 2 - i * 2 ≡ n * 2 = omega arith in
    let l : length (take (n * 2) (drop (i * 2) ls)) ≡ n * 2 = length-take-le (n * 2) (drop (i * 2) ls) (omega (arith, length-drop (i * 2) ls)) in
    let q : length (take (n * 2) (drop (i * 2) ls)) / 2 ≡ n = omega arith in
    rw (d, q) (rows_from_same (line_row_at (take (n * 2) (drop (i * 2) ls))) (line_row_at ls) 0 i n row)
  where
    cell : (k : ℕ) → k < n * 2 → get_or (take (n * 2) (drop (i * 2) ls)) k 0 ≡ get_or ls (i * 2 + k) 0
    cell k g = get_or-take (n * 2) (drop (i * 2) ls) k 0 g ∙ get_or-drop (i * 2) ls k 0

    row : (j : ℕ) → j < n → line_row_at (take (n * 2) (drop (i * 2) ls)) (0 + j) ≡ line_row_at ls (i + j)
    row j g =
        let a : i * 2 + j * 2 ≡ (i + j) * 2 = omega arith in
        let b : i * 2 + (j * 2 + 1) ≡ (i + j) * 2 + 1 = omega arith in
        rw (zero-add, cell (j * 2) (omega arith), cell (j * 2 + 1) (omega arith), a, b)

-- first, number: the words that the code read of record row r; x: the line that it found in the part
pub line_is : (recs ls : List ℕ) (r o : ℕ) {first number : ℕ} {x : Option ℕ} → (record_word recs r 17 + record_word recs r 18) * 2 ≤ length ls
    → first ≡ record_word recs r 17 → number ≡ record_word recs r 18 → x ≡ line_at (map_of (take ((first + number) * 2 - first * 2) (drop (first * 2) ls))) o
    → x ≡ line_at (entries ls (record_word recs r 17) (record_word recs r 18)) o
line_is recs ls r o {first} {number} h ef en q = q ∙ rw (ef, en, map_is ls (record_word recs r 17) (record_word recs r 18) h)
