-- The steps that lookups share, by the record's words that they read.
-- Assumes nothing.
use Rattle.std.specs.Prelude.{ℕ, ◌+◌, cond, ◌&&◌, List, ltb}
use Rattle.format.specs.Bytes.{Answer, ok, refused, bind}
use Rattle.format.specs.Rows.{Range, record_width}
use Rattle.format.specs.Lookup.{record_word, range_at, has_row}

-- words k and k + 1 of a record's row
abbrev pub record_words : List ℕ → ℕ → ℕ → Answer Range
record_words t r k = cond (has_row record_width t r && ltb 0 (record_word t r 0)) (ok (range_at t r k)) (refused 22)

-- which of a table's rows index i of a range is, and of the range that words k and k + 1 of a record's row are
abbrev pub row_among : ℕ → Range → ℕ → Answer ℕ
row_among rows g i = cond (ltb i g.number && ltb (g.first + i) rows) (ok (g.first + i)) (refused 22)

abbrev pub record_row : List ℕ → ℕ → ℕ → ℕ → ℕ → Answer ℕ
record_row t r k rows i = bind (record_words t r k) (λ g. row_among rows g i)
