-- A constant as the definitions have it, by its kind.
-- Assumes nothing.
use Rattle.std.specs.Prelude.{ℕ}
use Rattle.format.specs.Rows.{PoolRow}
use Rattle.format.specs.Lookup as format
use Rattle.ranges.specs.Answers.{text_of}
use Rattle.constant.specs.declared.PoolValue.{PoolValue}
use Rattle.constant.specs.declared.PoolValue.TheVariants as value

-- a pool row from its words
abbrev pub pool_row : ℕ → ℕ → ℕ → PoolRow
pool_row kind place length = record { kind = kind; place = place; length = length }

abbrev pub value_of : PoolValue → format.Constant
value_of (value.Text t) = format.text (text_of t)
value_of (value.Int n) = format.int n
value_of (value.Float x) = format.float x
value_of (value.Big t) = format.big (text_of t)
