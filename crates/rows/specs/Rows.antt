-- The kinds of row that one table is filled with: what the format reads at a place, put.
-- Assumes nothing.
use Rattle.std.specs.Prelude.{ℕ, ◌+◌, Bool, ◌||◌, cond, List, eqb, ltb}
use Rattle.format.specs.Bytes.{refused, Step, step, has, u16_at}
use Rattle.format.specs.Rows.{TextRow, text_row, handler_words, pool_words, text_words, name_words}
use Rattle.format.specs.Irep.{handler, pool_entry, symbol_text}
use Rattle.format.specs.Lvar.{plain_text, name_entry}
use Rattle.rows.specs.declared.Span.{Span}
use Rattle.rows.specs.declared.Row.{Row}
use Rattle.rows.specs.declared.Row.TheVariants.{Handler, Pool, Symbol, Text, Name}
use Rattle.rows.specs.Table.{Out, out, put_step, times}

-- where a value lies, and the place after it
abbrev pub span_of : Span → Step TextRow
span_of s = step (text_row s.place s.len) s.next

abbrev pub is_name : ℕ → ℕ → Bool
is_name index count = eqb index 65535 || ltb index count

abbrev pub row_of : List ℕ → ℕ → Row → ℕ → ℕ → List ℕ → Out
row_of f base Handler at = put_step handler_words (handler f at)
row_of f base Pool at = put_step pool_words (pool_entry f base at)
row_of f base Symbol at = put_step text_words (symbol_text f base at)
row_of f base Text at = put_step text_words (plain_text f base at)
row_of f base (Name count) at = put_step name_words (name_entry f count at)

-- a count of 2 bytes, then as many rows
unfoldable pub counted_of : List ℕ → ℕ → Row → ℕ → ℕ → List ℕ → Out
counted_of f base row at u t = cond (has f at 2) (times (row_of f base row) (u16_at f at) (at + 2) u t) (out (refused 7) t)
