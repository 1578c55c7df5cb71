-- The nine kinds of row, the words of a row, and a lent table that holds rows. Paper 01, 'Loading', "Rows."
-- Assumes nothing.
use Rattle.std.specs.Prelude.{ℕ, ◌-◌, cond, List, [], ◌∷◌, ◌++◌, eqb, length, replicate}

-- "first row and number of its .."; "A first row is 0 where its number is 0."
pub record Range : Type 0 where
  pub first : ℕ
  pub number : ℕ

abbrev pub range : ℕ → ℕ → Range
range row n = record { first = cond (eqb n 0) 0 row; number = n }

-- "Record: its six header fields, instruction place, first row and number of its handlers, pool entries, symbols, names, debug files
-- and lines." Paper 02, a): "The record row gains its depth and its parent's index".
pub record RecordRow : Type 0 where
  pub size : ℕ
  pub nlocals : ℕ
  pub nregs : ℕ
  pub rlen : ℕ
  pub clen : ℕ
  pub ilen : ℕ
  pub place : ℕ
  pub handlers : Range
  pub pool : Range
  pub symbols : Range
  pub names : Range
  pub files : Range
  pub lines : Range
  pub depth : ℕ
  pub parent : ℕ

-- "Handler: four fields."
pub record HandlerRow : Type 0 where
  pub kind : ℕ
  pub begin : ℕ
  pub end : ℕ
  pub target : ℕ

-- "Pool: kind, place and length of the value's bytes (7: all n + 1)."
pub record PoolRow : Type 0 where
  pub kind : ℕ
  pub place : ℕ
  pub length : ℕ

-- "Symbol, LVAR string, file name: place, length. Text goes without its zero."
pub record TextRow : Type 0 where
  pub place : ℕ
  pub length : ℕ

abbrev pub text_row : ℕ → ℕ → TextRow
text_row p n = record { place = p; length = n }

-- "Name: index."
pub record NameRow : Type 0 where
  pub index : ℕ

abbrev pub name_row : ℕ → NameRow
name_row i = record { index = i }

-- "Debug file: start, name index, first line, number."
pub record FileRow : Type 0 where
  pub start : ℕ
  pub name : ℕ
  pub lines : Range

-- "Line: position, line."
pub record LineRow : Type 0 where
  pub pos : ℕ
  pub line : ℕ

abbrev pub line_row : ℕ → ℕ → LineRow
line_row p l = record { pos = p; line = l }

-- how many words a record's row has
abbrev pub record_width : ℕ
record_width = 21

-- the words of each, in that order
abbrev pub record_words : RecordRow → List ℕ
record_words r =
    r.size ∷ r.nlocals ∷ r.nregs ∷ r.rlen ∷ r.clen ∷ r.ilen ∷ r.place
    ∷ r.handlers.first ∷ r.handlers.number
    ∷ r.pool.first ∷ r.pool.number
    ∷ r.symbols.first ∷ r.symbols.number
    ∷ r.names.first ∷ r.names.number
    ∷ r.files.first ∷ r.files.number
    ∷ r.lines.first ∷ r.lines.number
    ∷ r.depth ∷ r.parent
    ∷ []

abbrev pub handler_words : HandlerRow → List ℕ
handler_words r = r.kind ∷ r.begin ∷ r.end ∷ r.target ∷ []

abbrev pub pool_words : PoolRow → List ℕ
pool_words r = r.kind ∷ r.place ∷ r.length ∷ []

abbrev pub text_words : TextRow → List ℕ
text_words r = r.place ∷ r.length ∷ []

abbrev pub name_words : NameRow → List ℕ
name_words r = r.index ∷ []

abbrev pub file_words : FileRow → List ℕ
file_words r = r.start ∷ r.name ∷ r.lines.first ∷ r.lines.number ∷ []

abbrev pub line_words : LineRow → List ℕ
line_words r = r.pos ∷ r.line ∷ []

-- the words of rows, one after another
abbrev pub flat : {R : Type 0} → (R → List ℕ) → List R → List ℕ
flat words [] = []
flat words (r ∷ rs) = words r ++ flat words rs

-- a lent table of n words that holds rows: "Unused rows are zero."
abbrev pub table_of : {R : Type 0} → (R → List ℕ) → ℕ → List R → List ℕ
table_of words n rs = flat words rs ++ replicate (n - length (flat words rs)) 0
