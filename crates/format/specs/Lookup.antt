-- Lookups over a file and lent tables of any contents: nothing is trusted because a load made it. Paper 01, 'Fetch and line lookup':
-- "Lookups take a record and an index or offset: instructions, handler, pool, symbol, name, debug file, line. They answer the row's fields".
-- Assumes nothing.
use Rattle.std.specs.Prelude.{ℕ, ◌+◌, ◌*◌, ◌/◌, Bool, cond, ◌&&◌, ◌||◌, List, leb, ltb, eqb, Float, ℤ, length, get_or}
use Rattle.std.proofs.Math.Option.{Option, none, some}
use Rattle.format.specs.Bytes.{Answer, ok, refused, bind, int32_at, int64_at, float64_at}
use Rattle.format.specs.Rows.{Range, RecordRow, HandlerRow, PoolRow, TextRow, text_row, FileRow, record_width}
use Rattle.format.specs.Line.{line_at, rows_from, line_row_at}

-- word k of row i of a table with w words to a row
abbrev pub word : ℕ → List ℕ → ℕ → ℕ → ℕ
word w t i k = get_or t (i * w + k) 0

-- word k of record r's row
abbrev pub record_word : List ℕ → ℕ → ℕ → ℕ
record_word t r k = word record_width t r k

-- the rows that words say
abbrev pub range_at : List ℕ → ℕ → ℕ → Range
range_at t r k = record { first = record_word t r k; number = record_word t r (k + 1) }

abbrev pub record_row_at : List ℕ → ℕ → RecordRow
record_row_at t r =
    record {
      size = record_word t r 0;
      nlocals = record_word t r 1;
      nregs = record_word t r 2;
      rlen = record_word t r 3;
      clen = record_word t r 4;
      ilen = record_word t r 5;
      place = record_word t r 6;
      handlers = range_at t r 7;
      pool = range_at t r 9;
      symbols = range_at t r 11;
      names = range_at t r 13;
      files = range_at t r 15;
      lines = range_at t r 17;
      depth = record_word t r 19;
      parent = record_word t r 20;
    }

abbrev pub handler_row_at : List ℕ → ℕ → HandlerRow
handler_row_at t i = record { kind = word 4 t i 0; begin = word 4 t i 1; end = word 4 t i 2; target = word 4 t i 3 }

abbrev pub pool_row_at : List ℕ → ℕ → PoolRow
pool_row_at t i = record { kind = word 3 t i 0; place = word 3 t i 1; length = word 3 t i 2 }

abbrev pub text_row_at : List ℕ → ℕ → TextRow
text_row_at t i = text_row (word 2 t i 0) (word 2 t i 1)

abbrev pub file_row_at : List ℕ → ℕ → FileRow
file_row_at t i = record { start = word 4 t i 0; name = word 4 t i 1; lines = record { first = word 4 t i 2; number = word 4 t i 3 } }

-- row i is there
abbrev pub has_row : ℕ → List ℕ → ℕ → Bool
has_row w t i = ltb i (length t / w)

-- "22: a lookup's record or index has no row"; "A record row of size 0 is no row."
unfoldable pub record_in : List ℕ → ℕ → Answer RecordRow
record_in t r = cond (has_row record_width t r && ltb 0 (record_word t r 0)) (ok (record_row_at t r)) (refused 22)

-- which row of a table of rows of w words index i of a range is
unfoldable pub row_in : ℕ → List ℕ → Range → ℕ → Answer ℕ
row_in w t g i = cond (ltb i g.number && has_row w t (g.first + i)) (ok (g.first + i)) (refused 22)

-- "its row points outside file or tables": bytes of the file, and rows of a table, of which none points nowhere
unfoldable pub bytes_in : List ℕ → TextRow → Answer TextRow
bytes_in f t = cond (leb (t.place + t.length) (length f)) (ok t) (refused 22)

unfoldable pub rows_in : ℕ → List ℕ → Range → Answer Range
rows_in w t g = cond (eqb g.number 0 || leb (g.first + g.number) (length t / w)) (ok g) (refused 22)

-- the text that an index names in a table of texts
unfoldable pub text_in : List ℕ → List ℕ → ℕ → Answer TextRow
text_in f t i = cond (has_row 2 t i) (bytes_in f (text_row_at t i)) (refused 22)

-- a record's instructions: their place and length
unfoldable pub instructions : List ℕ → List ℕ → ℕ → Answer TextRow
instructions f records r = bind (record_in records r) (λ x. bytes_in f (text_row x.place x.ilen))

unfoldable pub handler : List ℕ → List ℕ → ℕ → ℕ → Answer HandlerRow
handler records handlers r i =
    bind (record_in records r) (λ x. bind (row_in 4 handlers x.handlers i) (λ j. ok (handler_row_at handlers j)))

-- "a pool lookup answers text place, whole number or float by its kind"
pub data Constant : Type 0 where
  text big : TextRow → Constant
  int : ℤ → Constant
  float : Float → Constant

-- a number of n bytes. "22: .. or its pool row's kind or number length is unknown"
abbrev pub of_bytes : ℕ → TextRow → Constant → Answer Constant
of_bytes n t c = cond (eqb t.length n) (ok c) (refused 22)

-- The constant that bytes of the file are. "Pool kinds: 0 and 2 string, 1 int32, 3 int64 .., 5 float64 low byte first, 7 big integer", int64
-- as paper 02, d), reads it
unfoldable pub constant_at : List ℕ → ℕ → TextRow → Answer Constant
constant_at f kind t =
    cond (eqb kind 0) (ok (text t))
    (cond (eqb kind 2) (ok (text t))
    (cond (eqb kind 1) (of_bytes 4 t (int (int32_at f t.place)))
    (cond (eqb kind 3) (of_bytes 8 t (int (int64_at f t.place)))
    (cond (eqb kind 5) (of_bytes 8 t (float (float64_at f t.place)))
    (cond (eqb kind 7) (ok (big t))
    (refused 22))))))

unfoldable pub constant_of : List ℕ → PoolRow → Answer Constant
constant_of f p = bind (bytes_in f (text_row p.place p.length)) (constant_at f p.kind)

unfoldable pub pool : List ℕ → List ℕ → List ℕ → ℕ → ℕ → Answer Constant
pool f records table r i = bind (record_in records r) (λ x. bind (row_in 3 table x.pool i) (λ j. constant_of f (pool_row_at table j)))

unfoldable pub symbol : List ℕ → List ℕ → List ℕ → ℕ → ℕ → Answer TextRow
symbol f records symbols r i = bind (record_in records r) (λ x. bind (row_in 2 symbols x.symbols i) (text_in f symbols))

-- "a name .. index gives its text's place and length, 65535 unnamed"
abbrev pub named : TextRow → Answer (Option TextRow)
named t = ok (some t)

unfoldable pub name_of : List ℕ → List ℕ → ℕ → Answer (Option TextRow)
name_of f strings n = cond (eqb n 65535) (ok none) (bind (text_in f strings n) named)

unfoldable pub name : List ℕ → List ℕ → List ℕ → List ℕ → ℕ → ℕ → Answer (Option TextRow)
name f records strings names r i =
    bind (record_in records r) (λ x. bind (row_in 1 names x.names i) (λ j. name_of f strings (word 1 names j 0)))

-- a debug file: its start, its name's place and length, its lines
pub record DebugFile : Type 0 where
  pub start : ℕ
  pub name : TextRow
  pub lines : Range

unfoldable pub debug_file_of : List ℕ → List ℕ → List ℕ → FileRow → Answer DebugFile
debug_file_of f file_names lines d =
    bind (text_in f file_names d.name) (λ t. bind (rows_in 2 lines d.lines) (λ g. ok (record { start = d.start; name = t; lines = g })))

unfoldable pub debug_file : List ℕ → List ℕ → List ℕ → List ℕ → List ℕ → ℕ → ℕ → Answer DebugFile
debug_file f records file_names files lines r i =
    bind (record_in records r) (λ x. bind (row_in 4 files x.files i) (λ j. debug_file_of f file_names lines (file_row_at files j)))

-- a record's map in the line table
abbrev pub map_in : List ℕ → Range → ℕ → Answer (Option ℕ)
map_in lines g p = ok (line_at (rows_from (line_row_at lines) g.first g.number) p)

-- "A frame's line is what `line_at` answers for its record and offset."
unfoldable pub line : List ℕ → List ℕ → ℕ → ℕ → Answer (Option ℕ)
line records lines r p = bind (record_in records r) (λ x. bind (rows_in 2 lines x.lines) (λ g. map_in lines g p))
