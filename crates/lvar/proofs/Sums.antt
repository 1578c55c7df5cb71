-- The turns of the loop that counts the visits of a walk, over the rlens of the records that it visits.
-- Assumes nothing.
use Rattle.std.proofs.Common.{◌≡◌, ℕ, ◌+◌, ◌-◌, ◌<◌, ◌≤◌, List, ap, arith}
use Rattle.format.specs.Line.{rows_from}
use Rattle.format.specs.Tree.{total}
use Rattle.format.proofs.RowsFrom.{rows_start, rows_turn, rows_end}
use Rattle.lvar.specs.Names.{rlen_of, visits_over, in_word}

-- the rlens of the records from i up to n
abbrev pub left : List ℕ → ℕ → ℕ → ℕ
left rs n i = total (rows_from (rlen_of rs) i (n - i))

module _ (rs : List ℕ) (n : ℕ) where
  pub left_start : in_word (1 + left rs n 0) ≡ in_word (visits_over rs n)
  left_start = let e = ap total (rows_start (rlen_of rs) 0 n n (omega arith)) in omega arith

  pub left_turn : (s i : ℕ) → i < n → in_word (s + left rs n i) ≡ in_word (visits_over rs n)
      → in_word (in_word (s + rlen_of rs i) + left rs n (i + 1)) ≡ in_word (visits_over rs n)
  unfolding total
  left_turn s i h e = let t = ap total (rows_turn (rlen_of rs) i n h) in omega arith

  pub left_end : (s i : ℕ) → n ≤ i → s < 4294967296 → in_word (s + left rs n i) ≡ in_word (visits_over rs n) → s ≡ in_word (visits_over rs n)
  unfolding total
  left_end s i h w e = let t = ap total (rows_end (rlen_of rs) i n h) in omega arith
