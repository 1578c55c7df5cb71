-- What lookups answer over tables that a load filled: what was read of the file, and 22 where there is nothing.
-- Assumes nothing.
use Prim.Native.Nat.{ℕ, ◌+◌, ◌/◌, ◌≤◌, ◌<◌}
use native.Mathlib.Omega.{arith}
use mathlib.Core.Path.{◌≡◌, refl, ap, ◌∙◌}
use mathlib.Core.Logic.{◌⊎◌, inl, inr}
use mathlib.Core.Bool.{Bool, true, false, ◌&&◌, cond}
use mathlib.Core.List.{List, []}
use mathlib.Core.Option.{none, some}
use lib.Dec.{leb, ltb}
use lib.ListN.{length, get_or, get_or-eq_default}
use borrow.Author.Tests.{leb-true, leb-false, le-leb, lt-ltb, ne_eqb}
use Rattle.format.specs.Bytes.{Answer, ok, refused, int32_at, int64_at, float64_at}
use Rattle.format.specs.Rows.{Range, RecordRow, record_words, HandlerRow, handler_words, PoolRow, pool_words, TextRow, text_row, text_words, NameRow}
use Rattle.format.specs.Rows.{name_words, FileRow, file_words, line_words, table_of, record_width}
use Rattle.format.specs.Irep.{Rec}
use Rattle.format.specs.Debug.{File}
use Rattle.format.specs.Allowance.{Allowance}
use Rattle.format.specs.File.{Content}
use Rattle.format.specs.Load.{Nine, Words, records_of, strings_of, names_of, file_names_of, files_of, map_of_files, file_rows, tables_of, words_of, loading, load}
use Rattle.format.specs.Line.{line_at, rows_from, line_row_at}
use Rattle.format.specs.Lookup.{word, file_row_at, record_row_at, has_row, record_in, bytes_in, text_in, instructions, handler, Constant, text, big, int}
use Rattle.format.specs.Lookup.{record_word, float, constant_at, constant_of, pool, symbol, name_of, name, DebugFile, debug_file_of, debug_file, line}
use Rattle.format.proofs.Pool.{IsString}
use Rattle.format.proofs.Places.{records_length, file_rows_length}
use Rattle.layout.proofs.Own.{Own, OwnFile, Owns, owns, table_row}
use Rattle.layout.proofs.Ends.{Each}
use Rattle.layout.proofs.Inside.{TextInside, StringInside, SymbolInside, PlainInside, NameInside, FileInside, PoolInside, Inside, loading_inside, Held, loading_held}
use Rattle.layout.proofs.Inside.{Known, string, int32, int64, float64, big_integer_row}
use Rattle.layout.proofs.Back.{table_zero, has_row_lem, row_in_lem, row_past, rows_in_lem, record_back, text_back, file_back, handler_back, pool_back, name_back}
use Rattle.layout.proofs.Back.{lines_back}

-- the nine tables of m words each after a load that read c
abbrev pub held : Nine → Content → Words
held m c = words_of m (tables_of c)

-- which are those that load leaves
pub loaded_tables : (f : List ℕ) (m : Nine) (a : Allowance) (c : Content) → loading f m a ≡ ok c → (load f m a).tables ≡ held m c
unfolding load
loaded_tables f m a c e = rw e

-- two tests that pass, and a second that does not
passes : {A : Type 0} (a b : Bool) (x y : A) → a ≡ true → b ≡ true → cond (a && b) x y ≡ x
passes a b x y p q = rw (p, q)

fails : {A : Type 0} (a b : Bool) (x y : A) → b ≡ false → cond (a && b) x y ≡ y
fails true b x y q = rw q
fails false b x y q = refl

zero_row : RecordRow
zero_row = record_row_at [] 0

-- a text of the file, by its index in a table
text_in_lem : (f : List ℕ) (m : ℕ) (rs : List TextRow) → length rs ≤ m / 2 → (i : ℕ) (t : TextRow) → i < length rs → TextInside f (get_or rs i t)
    → text_in f (table_of text_words m rs) i ≡ ok (get_or rs i t)
unfolding text_in bytes_in
text_in_lem f m rs fit i t h g =
    let e = text_back m rs i t h in
    let q : leb (word 2 (table_of text_words m rs) i 0 + word 2 (table_of text_words m rs) i 1) (length f) ≡ true =
    rw (ap (λ (x : TextRow). x.place) e, ap (λ (x : TextRow). x.length) e) (le-leb _ _ g) in
    rw (has_row_lem text_words 2 (λ _. refl) (omega arith) m rs fit i h, q) (ap ok e)

-- an element of a list of lists, of which something is said of each
inner : {A : Type 0} (P : A → Type 0) (ls : List (List A)) → Each (Each P) ls → (i j : ℕ) (d : A) → j < length (get_or ls i []) → P (get_or (get_or ls i []) j d)
inner P ls x i j d h = go (leb (length ls) i) refl
  where
    go : (b : Bool) → leb (length ls) i ≡ b → P (get_or (get_or ls i []) j d)
    go true e = let z : get_or ls i [] ≡ [] = get_or-eq_default ls [] (leb-true _ _ e) in absurd (omega (arith, ap length z))
    go false e = x i [] (leb-false _ _ e) j d h

-- the constant that a pool entry of the file is, by its kind
module _ (f : List ℕ) (q : PoolRow) (inside : q.place + q.length ≤ length f) where
  constant_string : IsString q.kind → constant_of f q ≡ ok (text (text_row q.place q.length))
  unfolding constant_of constant_at bytes_in
  constant_string (inl k) = rw (le-leb _ _ inside, k)
  constant_string (inr k) = rw (le-leb _ _ inside, k)

  constant_int32 : q.kind ≡ 1 → q.length ≡ 4 → constant_of f q ≡ ok (int (int32_at f q.place))
  unfolding constant_of constant_at bytes_in
  constant_int32 k n = rw (le-leb _ _ inside, k, n)

  constant_int64 : q.kind ≡ 3 → q.length ≡ 8 → constant_of f q ≡ ok (int (int64_at f q.place))
  unfolding constant_of constant_at bytes_in
  constant_int64 k n = rw (le-leb _ _ inside, k, n)

  constant_float64 : q.kind ≡ 5 → q.length ≡ 8 → constant_of f q ≡ ok (float (float64_at f q.place))
  unfolding constant_of constant_at bytes_in
  constant_float64 k n = rw (le-leb _ _ inside, k, n)

  constant_big : q.kind ≡ 7 → constant_of f q ≡ ok (big (text_row q.place q.length))
  unfolding constant_of constant_at bytes_in
  constant_big k = rw (le-leb _ _ inside, k)

  constant_ok : Known f q → (x : Constant) × (constant_of f q ≡ ok x)
  constant_ok (string k _) = (text (text_row q.place q.length), constant_string k)
  constant_ok (int32 k n) = (int (int32_at f q.place), constant_int32 k n)
  constant_ok (int64 k n) = (int (int64_at f q.place), constant_int64 k n)
  constant_ok (float64 k n) = (float (float64_at f q.place), constant_float64 k n)
  constant_ok (big_integer_row k) = (big (text_row q.place q.length), constant_big k)

-- what a known kind says of the entry: it is not two kinds at once
module _ (f : List ℕ) (q : PoolRow) where
  no_string : (n : ℕ) → q.kind ≡ n → 0 < n → ¬ (n ≡ 2) → ¬ IsString q.kind
  no_string n k h g (inl e) = omega arith
  no_string n k h g (inr e) = omega (arith, g)

  known_lengths : Known f q → (q.kind ≡ 1 → q.length ≡ 4) × (q.kind ≡ 3 → q.length ≡ 8) × (q.kind ≡ 5 → q.length ≡ 8)
  known_lengths (string (inl k) _) = (λ e. absurd (omega arith), λ e. absurd (omega arith), λ e. absurd (omega arith))
  known_lengths (string (inr k) _) = (λ e. absurd (omega arith), λ e. absurd (omega arith), λ e. absurd (omega arith))
  known_lengths (int32 k n) = (λ e. n, λ e. absurd (omega arith), λ e. absurd (omega arith))
  known_lengths (int64 k n) = (λ e. absurd (omega arith), λ e. n, λ e. n)
  known_lengths (float64 k n) = (λ e. absurd (omega arith), λ e. n, λ e. n)
  known_lengths (big_integer_row k) = (λ e. absurd (omega arith), λ e. absurd (omega arith), λ e. absurd (omega arith))

  known_string : Known f q → IsString q.kind → StringInside f (text_row q.place q.length)
  known_string (string _ x) e = x
  known_string (int32 k n) e = absurd (no_string 1 k (omega arith) (λ z. omega arith) e)
  known_string (int64 k n) e = absurd (no_string 3 k (omega arith) (λ z. omega arith) e)
  known_string (float64 k n) e = absurd (no_string 5 k (omega arith) (λ z. omega arith) e)
  known_string (big_integer_row k) e = absurd (no_string 7 k (omega arith) (λ z. omega arith) e)

-- The answer about the debug file x: its start, its name's text, and the rows of its lines; those rows of the table are x's lines.
pub record FileAnswer (m : Nine) (c : Content) (x : File) (a : Answer DebugFile) : Type 0 where
  pub named : x.name < length (file_names_of c)
  pub lines : Range
  pub answer : (t : TextRow) → a ≡ ok (record { start = x.start; name = get_or (file_names_of c) x.name t; lines = lines })
  pub own : Own (tables_of c).lines lines x.lines
  pub rows : rows_from (line_row_at (held m c).lines) lines.first lines.number ≡ x.lines

-- no lookup of record i answers anything but 22
pub record NoRecord (f : List ℕ) (w : Words) (i : ℕ) : Type 0 where
  pub instructions : instructions f w.records i ≡ refused 22
  pub handler : (j : ℕ) → handler w.records w.handlers i j ≡ refused 22
  pub pool : (j : ℕ) → pool f w.records w.pool i j ≡ refused 22
  pub symbol : (j : ℕ) → symbol f w.records w.symbols i j ≡ refused 22
  pub name : (j : ℕ) → name f w.records w.strings w.names i j ≡ refused 22
  pub debug_file : (j : ℕ) → debug_file f w.records w.file_names w.files w.lines i j ≡ refused 22
  pub line : (p : ℕ) → line w.records w.lines i p ≡ refused 22

module _ (f : List ℕ) (m : Nine) (a : Allowance) (c : Content) (loaded : loading f m a ≡ ok c) where
  every : Inside f c
  every = loading_inside f m a c loaded

  room : Held m c
  room = loading_held f m a c loaded

  rows_count : length (tables_of c).records ≡ length (records_of c)
  rows_count = records_length c

  module _ (i : ℕ) (d : Rec) (h : i < length (records_of c)) where
    row : RecordRow
    row = get_or (tables_of c).records i zero_row

    own : Owns (tables_of c) row (get_or (records_of c) i d) (get_or (names_of c) i []) (get_or (files_of c) i [])
    unfolding row
    own = owns c i h d zero_row

    -- the row of record i is there
    record_in_lem : record_in (held m c).records i ≡ ok row
    unfolding record_in row
    record_in_lem =
        let t = (held m c).records in
        let g : i < length (tables_of c).records = rw rows_count h in
        let e : record_word t i 0 ≡ (get_or (records_of c) i d).head.size = table_row record_words record_width (λ _. refl) m.records (tables_of c).records i 0 zero_row g (omega arith) ∙ own.size in
        passes (has_row record_width t i) (ltb 0 (record_word t i 0)) (ok (record_row_at t i)) (refused 22)
        (has_row_lem record_words record_width (λ _. refl) (omega arith) m.records (tables_of c).records room.records i g)
        (lt-ltb 0 (record_word t i 0) (rw e (every.records i d h).sized))
        ∙ ap ok (record_back m.records (tables_of c).records i zero_row g)

    -- "instructions": their place and length
    pub instructions_are : instructions f (held m c).records i ≡ ok (text_row (get_or (records_of c) i d).place (get_or (records_of c) i d).head.ilen)
    unfolding instructions bytes_in
    instructions_are = rw (record_in_lem, own.place, own.ilen, le-leb _ _ (every.records i d h).bytes)

    -- handler j, and past the last
    pub handler_is : (j : ℕ) (e : HandlerRow) → j < length (get_or (records_of c) i d).body.handlers
        → handler (held m c).records (held m c).handlers i j ≡ ok (get_or (get_or (records_of c) i d).body.handlers j e)
    unfolding handler
    handler_is j e g =
        let o = own.handlers in
        rw (record_in_lem, row_in_lem handler_words 4 (λ _. refl) (omega arith) m.handlers (tables_of c).handlers room.handlers row.handlers _ o j g)
        (ap ok (handler_back m.handlers row.handlers j (omega (arith, o.number)) (tables_of c).handlers _ o e))

    pub handler_past : (j : ℕ) → length (get_or (records_of c) i d).body.handlers ≤ j → handler (held m c).records (held m c).handlers i j ≡ refused 22
    unfolding handler
    handler_past j g =
        rw (record_in_lem, row_past handler_words 4 (λ _. refl) (omega arith) m.handlers (tables_of c).handlers room.handlers row.handlers _ own.handlers j g)

    -- constant j, and past the last
    pub pool_is : (j : ℕ) (q : PoolRow) → j < length (get_or (records_of c) i d).body.pool
        → pool f (held m c).records (held m c).pool i j ≡ constant_of f (get_or (get_or (records_of c) i d).body.pool j q)
    unfolding pool
    pool_is j q g =
        let o = own.pool in
        rw (record_in_lem, row_in_lem pool_words 3 (λ _. refl) (omega arith) m.pool (tables_of c).pool room.pool row.pool _ o j g)
        (ap (constant_of f) (pool_back m.pool row.pool j (omega (arith, o.number)) (tables_of c).pool _ o q))

    pub pool_past : (j : ℕ) → length (get_or (records_of c) i d).body.pool ≤ j → pool f (held m c).records (held m c).pool i j ≡ refused 22
    unfolding pool
    pool_past j g =
        rw (record_in_lem, row_past pool_words 3 (λ _. refl) (omega arith) m.pool (tables_of c).pool room.pool row.pool _ own.pool j g)

    inside : (j : ℕ) (q : PoolRow) → j < length (get_or (records_of c) i d).body.pool → PoolInside f (get_or (get_or (records_of c) i d).body.pool j q)
    inside j q g = (every.records i d h).pool j q g

    -- what the constant is, by its kind: "0 and 2 string", "1 int32"
    pub pool_string : (j : ℕ) (q : PoolRow) → j < length (get_or (records_of c) i d).body.pool
        → let x = get_or (get_or (records_of c) i d).body.pool j q in
        IsString x.kind → pool f (held m c).records (held m c).pool i j ≡ ok (text (text_row x.place x.length))
    pool_string j q g k = pool_is j q g ∙ constant_string f _ (inside j q g).bytes k

    -- paper 02, d): "Pool strings may have zero bytes inside; the last byte must still be zero."
    pub pool_string_ended : (j : ℕ) (q : PoolRow) → j < length (get_or (records_of c) i d).body.pool
        → let x = get_or (get_or (records_of c) i d).body.pool j q in
        IsString x.kind → StringInside f (text_row x.place x.length)
    pool_string_ended j q g k = known_string f _ (inside j q g).known k

    pub pool_int32 : (j : ℕ) (q : PoolRow) → j < length (get_or (records_of c) i d).body.pool
        → let x = get_or (get_or (records_of c) i d).body.pool j q in
        x.kind ≡ 1 → pool f (held m c).records (held m c).pool i j ≡ ok (int (int32_at f x.place))
    pool_int32 j q g k = pool_is j q g ∙ constant_int32 f _ (inside j q g).bytes k ((known_lengths f _ (inside j q g).known).0 k)

    -- paper 02, d): "Eight-byte pool integers are now read high byte first."
    pub pool_int64 : (j : ℕ) (q : PoolRow) → j < length (get_or (records_of c) i d).body.pool
        → let x = get_or (get_or (records_of c) i d).body.pool j q in
        x.kind ≡ 3 → pool f (held m c).records (held m c).pool i j ≡ ok (int (int64_at f x.place))
    pool_int64 j q g k = pool_is j q g ∙ constant_int64 f _ (inside j q g).bytes k ((known_lengths f _ (inside j q g).known).1 k)

    -- "5 float64 low byte first"
    pub pool_float64 : (j : ℕ) (q : PoolRow) → j < length (get_or (records_of c) i d).body.pool
        → let x = get_or (get_or (records_of c) i d).body.pool j q in
        x.kind ≡ 5 → pool f (held m c).records (held m c).pool i j ≡ ok (float (float64_at f x.place))
    pool_float64 j q g k = pool_is j q g ∙ constant_float64 f _ (inside j q g).bytes k ((known_lengths f _ (inside j q g).known).2 k)

    -- "7 big integer"
    pub pool_big_integer : (j : ℕ) (q : PoolRow) → j < length (get_or (records_of c) i d).body.pool
        → let x = get_or (get_or (records_of c) i d).body.pool j q in
        x.kind ≡ 7 → pool f (held m c).records (held m c).pool i j ≡ ok (big (text_row x.place x.length))
    pool_big_integer j q g k = pool_is j q g ∙ constant_big f _ (inside j q g).bytes k

    -- there is no other kind: the constant is never refused
    pub pool_ok : (j : ℕ) → j < length (get_or (records_of c) i d).body.pool → (x : Constant) × (pool f (held m c).records (held m c).pool i j ≡ ok x)
    pool_ok j g =
        let q : PoolRow = record { kind = 0; place = 0; length = 0 } in
        let x = constant_ok f (get_or (get_or (records_of c) i d).body.pool j q) (inside j q g).bytes (inside j q g).known in
        (x.0, pool_is j q g ∙ x.1)

    -- d): "Symbols, local names and file names keep their rule."
    pub symbol_bytes : (j : ℕ) (t : TextRow) → j < length (get_or (records_of c) i d).body.symbols → SymbolInside f (get_or (get_or (records_of c) i d).body.symbols j t)
    symbol_bytes j t g = (every.records i d h).symbols j t g

    -- symbol j, and past the last
    pub symbol_is : (j : ℕ) (t : TextRow) → j < length (get_or (records_of c) i d).body.symbols
        → symbol f (held m c).records (held m c).symbols i j ≡ ok (get_or (get_or (records_of c) i d).body.symbols j t)
    unfolding symbol
    symbol_is j t g =
        let o = own.symbols in
        let n = o.number in
        let q = o.inside in
        let e = o.at j t (omega arith) in
        let x = (symbol_bytes j t g).string.inside in
        rw (record_in_lem, row_in_lem text_words 2 (λ _. refl) (omega arith) m.symbols (tables_of c).symbols room.symbols row.symbols _ o j g)
        (text_in_lem f m.symbols (tables_of c).symbols room.symbols (row.symbols.first + j) t (omega arith) (rw e (omega arith)) ∙ ap ok e)

    pub symbol_past : (j : ℕ) → length (get_or (records_of c) i d).body.symbols ≤ j → symbol f (held m c).records (held m c).symbols i j ≡ refused 22
    unfolding symbol
    symbol_past j g =
        rw (record_in_lem, row_past text_words 2 (λ _. refl) (omega arith) m.symbols (tables_of c).symbols room.symbols row.symbols _ own.symbols j g)

    -- name j: unnamed, or the string that its index counts; and past the last
    name_at : (j : ℕ) (x : NameRow) → j < length (get_or (names_of c) i [])
        → name f (held m c).records (held m c).strings (held m c).names i j ≡ name_of f (held m c).strings (get_or (get_or (names_of c) i []) j x).index
    unfolding name
    name_at j x g =
        let o = own.names in
        rw (record_in_lem, row_in_lem name_words 1 (λ _. refl) (omega arith) m.names (tables_of c).names room.names row.names _ o j g)
        (ap (name_of f (held m c).strings) (name_back m.names row.names j (omega (arith, o.number)) (tables_of c).names _ o x))

    pub name_unnamed : (j : ℕ) (x : NameRow) → j < length (get_or (names_of c) i []) → (get_or (get_or (names_of c) i []) j x).index ≡ 65535
        → name f (held m c).records (held m c).strings (held m c).names i j ≡ ok none
    unfolding name_of
    name_unnamed j x g e = name_at j x g ∙ rw e

    pub name_is : (j : ℕ) (x : NameRow) (t : TextRow) → j < length (get_or (names_of c) i []) → ¬ ((get_or (get_or (names_of c) i []) j x).index ≡ 65535)
        → name f (held m c).records (held m c).strings (held m c).names i j ≡ ok (some (get_or (strings_of c) (get_or (get_or (names_of c) i []) j x).index t))
    unfolding name_of
    name_is j x t g ne =
        let n = (get_or (get_or (names_of c) i []) j x).index in
        let b = below n (inner (NameInside (length (strings_of c))) (names_of c) every.names i j x g) ne in
        name_at j x g ∙ rw (ne_eqb n 65535 ne, text_in_lem f m.strings (strings_of c) room.strings n t b (every.strings n t b).inside)
      where
        below : (n : ℕ) → (n ≡ 65535) ⊎ (n < length (strings_of c)) → ¬ (n ≡ 65535) → n < length (strings_of c)
        below n (inl e) ne = absurd (ne e)
        below n (inr b) ne = b

    pub name_past : (j : ℕ) → length (get_or (names_of c) i []) ≤ j → name f (held m c).records (held m c).strings (held m c).names i j ≡ refused 22
    unfolding name
    name_past j g =
        rw (record_in_lem, row_past name_words 1 (λ _. refl) (omega arith) m.names (tables_of c).names room.names row.names _ own.names j g)

    -- debug file j, and past the last
    file_answer : (X : FileRow) (F : File) → OwnFile (tables_of c).lines X F → F.name < length (file_names_of c) → (t : TextRow)
        → debug_file_of f (held m c).file_names (held m c).lines X ≡ ok (record { start = F.start; name = get_or (file_names_of c) F.name t; lines = X.lines })
    unfolding debug_file_of
    file_answer X F x b t =
        rw (
          x.name,
          text_in_lem f m.file_names (file_names_of c) room.file_names F.name t b (every.file_names F.name t b).inside,
          rows_in_lem line_words 2 (λ _. refl) (omega arith) m.lines (tables_of c).lines room.lines X.lines _ x.lines,
          x.start,
        )

    pub debug_file_is : (j : ℕ) (e : File) → j < length (get_or (files_of c) i [])
        → FileAnswer m c (get_or (get_or (files_of c) i []) j e) (debug_file f (held m c).records (held m c).file_names (held m c).files (held m c).lines i j)
    unfolding debug_file
    debug_file_is j e g =
        record { named = named; lines = X.lines; answer = answer; own = x.lines; rows = lines_back m.lines (tables_of c).lines X.lines _ x.lines }
      where
        zero_file : FileRow
        zero_file = file_row_at [] 0

        k : ℕ
        k = row.files.first + j

        X : FileRow
        X = get_or (tables_of c).files k zero_file

        F : File
        F = get_or (get_or (files_of c) i []) j e

        counted : j < length (file_rows row.lines.first (get_or (files_of c) i []))
        counted = rw file_rows_length g

        x : OwnFile (tables_of c).lines X F
        x = own.file j (omega (arith, own.files.number, counted)) e zero_file

        named : F.name < length (file_names_of c)
        named = inner (FileInside (length (file_names_of c))) (files_of c) every.files i j e g

        answer : (t : TextRow) → debug_file f (held m c).records (held m c).file_names (held m c).files (held m c).lines i j
            ≡ ok (record { start = F.start; name = get_or (file_names_of c) F.name t; lines = X.lines })
        answer t =
            rw (record_in_lem, row_in_lem file_words 4 (λ _. refl) (omega arith) m.files (tables_of c).files room.files row.files _ own.files j counted)
            (ap (debug_file_of f (held m c).file_names (held m c).lines) (file_back m.files (tables_of c).files k zero_file (omega (arith, own.files.number, own.files.inside, counted)))
            ∙ file_answer X F x named t)

    pub debug_file_past : (j : ℕ) → length (get_or (files_of c) i []) ≤ j
        → debug_file f (held m c).records (held m c).file_names (held m c).files (held m c).lines i j ≡ refused 22
    unfolding debug_file
    debug_file_past j g =
        rw (record_in_lem, row_past file_words 4 (λ _. refl) (omega arith) m.files (tables_of c).files room.files row.files _ own.files j (rw file_rows_length g))

    -- "line": that of the record's map
    pub line_is : (p : ℕ) → line (held m c).records (held m c).lines i p ≡ ok (line_at (map_of_files (get_or (files_of c) i [])) p)
    unfolding line
    line_is p =
        let o = own.lines in
        rw (
          record_in_lem,
          rows_in_lem line_words 2 (λ _. refl) (omega arith) m.lines (tables_of c).lines room.lines row.lines _ o,
          lines_back m.lines (tables_of c).lines row.lines _ o,
        )

  -- d), of the texts of LVAR and DBG: they "keep their rule", "bytes without any zero"
  pub name_bytes : (n : ℕ) (t : TextRow) → n < length (strings_of c) → PlainInside f (get_or (strings_of c) n t)
  name_bytes n t h = every.strings n t h

  pub file_name_bytes : (n : ℕ) (t : TextRow) → n < length (file_names_of c) → PlainInside f (get_or (file_names_of c) n t)
  file_name_bytes n t h = every.file_names n t h

  -- past the records there is no row, or one of size 0
  no_record : (i : ℕ) → length (records_of c) ≤ i → record_in (held m c).records i ≡ refused 22
  unfolding record_in
  no_record i h =
      let t = (held m c).records in
      let e : record_word t i 0 ≡ 0 = table_zero record_words record_width (λ _. refl) m.records (tables_of c).records i 0 (rw rows_count h) in
      fails (has_row record_width t i) (ltb 0 (record_word t i 0)) (ok (record_row_at t i)) (refused 22) (rw e)

  -- a record that is not there: every lookup of it meets 22
  pub beyond : (i : ℕ) → length (records_of c) ≤ i → NoRecord f (held m c) i
  unfolding instructions handler pool symbol name debug_file line
  beyond i h =
      let e = no_record i h in
      record { instructions = rw e; handler = λ j. rw e; pool = λ j. rw e; symbol = λ j. rw e; name = λ j. rw e; debug_file = λ j. rw e; line = λ p. rw e }
