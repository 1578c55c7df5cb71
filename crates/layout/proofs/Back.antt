-- Lent tables read back: a table that holds rows has its own number of words, each row is there, and its unused rows are zero; the rows that
-- a range names, read off the words, are the list that was laid there.
-- Assumes nothing.
use Prim.Native.Nat.{ℕ, zero, ◌+◌, ◌-◌, ◌*◌, ◌/◌, ◌≤◌, ◌<◌}
use native.Mathlib.Nat.{add-zero, mul-le-mul_right, le-div_iff_mul-le}
use native.Mathlib.Omega.{arith}
use mathlib.Core.Path.{◌≡◌, refl, sym, ◌∙◌}
use mathlib.Core.Bool.{Bool, true, false, ◌||◌, cond}
use mathlib.Core.List.{List, map}
use lib.Dec.{leb, eqb}
use lib.ListN.{length, get_or, length-append, length-replicate, length-map, get_or-map}
use lib.Seq.{ext_get_or, get_or-append-add}
use borrow.Author.Tests.{lt-ltb, le-ltb, le-leb}
use Rattle.format.specs.Bytes.{ok, refused}
use Rattle.format.specs.Rows.{Range, HandlerRow, handler_words, PoolRow, pool_words, TextRow, text_words, NameRow, name_words, FileRow, file_words}
use Rattle.format.specs.Rows.{LineRow, line_row, line_words, RecordRow, record_width, record_words, flat, table_of}
use Rattle.format.specs.Line.{rows_from, line_row_at}
use Rattle.format.specs.Lookup.{word, record_word, record_row_at, handler_row_at, pool_row_at, text_row_at, file_row_at, has_row, row_in, rows_in}
use Rattle.format.proofs.Places.{zeros, flat_length}
use Rattle.format.proofs.RowsFrom.{rows_from_length, rows_from_at}
use Rattle.layout.proofs.Own.{Own, table_row, own_word}

-- a view of rows that says a list, row by row, is that list
pub rows_back : {A : Type 0} (view : ℕ → A) (first : ℕ) (l : List A) (d : A) → ((j : ℕ) → j < length l → view (first + j) ≡ get_or l j d) → rows_from view first (length l) ≡ l
rows_back view first l d h =
    ext_get_or d (rows_from view first (length l)) l (rows_from_length view first (length l))
    (λ j g. let k : j < length l = rw (← rows_from_length view first (length l)) g in rows_from_at view first (length l) j d k ∙ h j k)

module _ {R : Type 0} (words : R → List ℕ) (w : ℕ) (wide : (r : R) → length (words r) ≡ w) where
  -- a row behind those that are used
  pub table_zero : (m : ℕ) (rs : List R) (i k : ℕ) → length rs ≤ i → get_or (table_of words m rs) (i * w + k) 0 ≡ 0
  table_zero m rs i k h =
      let a : length rs * w ≤ i * w = mul-le-mul_right w h in
      let e : i * w + k ≡ length (flat words rs) + (i * w + k - length rs * w) = rw (flat_length words w wide rs) (omega arith) in
      rw (e, get_or-append-add) (zeros (m - length (flat words rs)) (i * w + k - length rs * w))

  module _ (pos : 0 < w) (m : ℕ) (rs : List R) (fit : length rs ≤ m / w) where
    pub table_length : length (table_of words m rs) ≡ m
    table_length =
        let a : length rs * w ≤ m = (le-div_iff_mul-le pos).0 fit in
        rw (length-append, length-replicate, flat_length words w wide rs) (omega arith)

    pub has_row_lem : (i : ℕ) → i < length rs → has_row w (table_of words m rs) i ≡ true
    has_row_lem i h = rw table_length (lt-ltb i (m / w) (omega arith))

    -- index j of the rows that a range names; and an index past them
    pub row_in_lem : (g : Range) (l : List R) → Own rs g l → (j : ℕ) → j < length l → row_in w (table_of words m rs) g j ≡ ok (g.first + j)
    unfolding row_in
    row_in_lem g l o j h =
        let n = o.number in
        rw (lt-ltb j g.number (omega arith), has_row_lem (g.first + j) (omega (arith, o.inside)))

    pub row_past : (g : Range) (l : List R) → Own rs g l → (j : ℕ) → length l ≤ j → row_in w (table_of words m rs) g j ≡ refused 22
    unfolding row_in
    row_past g l o j h = let n = o.number in rw (le-ltb j g.number (omega arith))

    pub rows_in_lem : (g : Range) (l : List R) → Own rs g l → rows_in w (table_of words m rs) g ≡ ok g
    unfolding rows_in
    rows_in_lem g l o =
        let q : leb (g.first + g.number) (length (table_of words m rs) / w) ≡ true = rw table_length (le-leb (g.first + g.number) (m / w) (omega (arith, o.inside))) in
        rw q (go (eqb g.number 0))
      where
        go : (b : Bool) → cond (b || true) (ok g) (refused 22) ≡ ok g
        go true = refl
        go false = refl

-- a record's row
pub record_back : (m : ℕ) (rs : List RecordRow) (i : ℕ) (d : RecordRow) → i < length rs → record_row_at (table_of record_words m rs) i ≡ get_or rs i d
record_back m rs i d h =
    let e : (k : ℕ) → k < record_width → record_word (table_of record_words m rs) i k ≡ get_or (record_words (get_or rs i d)) k 0 = λ k g. table_row record_words record_width (λ _. refl) m rs i k d h g in
    rw (
      e 0 (omega arith),
      e 1 (omega arith),
      e 2 (omega arith),
      e 3 (omega arith),
      e 4 (omega arith),
      e 5 (omega arith),
      e 6 (omega arith),
      e 7 (omega arith),
      e 8 (omega arith),
      e 9 (omega arith),
      e 10 (omega arith),
      e 11 (omega arith),
      e 12 (omega arith),
      e 13 (omega arith),
      e 14 (omega arith),
      e 15 (omega arith),
      e 16 (omega arith),
      e 17 (omega arith),
      e 18 (omega arith),
      e 19 (omega arith),
      e 20 (omega arith),
    )

-- a text by its index
pub text_back : (m : ℕ) (rs : List TextRow) (i : ℕ) (d : TextRow) → i < length rs → text_row_at (table_of text_words m rs) i ≡ get_or rs i d
text_back m rs i d h =
    let e : (k : ℕ) → k < 2 → word 2 (table_of text_words m rs) i k ≡ get_or (text_words (get_or rs i d)) k 0 = λ k g. table_row text_words 2 (λ _. refl) m rs i k d h g in
    rw (e 0 (omega arith), e 1 (omega arith))

-- a debug file's row by its index
pub file_back : (m : ℕ) (rs : List FileRow) (i : ℕ) (d : FileRow) → i < length rs → file_row_at (table_of file_words m rs) i ≡ get_or rs i d
file_back m rs i d h =
    let e : (k : ℕ) → k < 4 → word 4 (table_of file_words m rs) i k ≡ get_or (file_words (get_or rs i d)) k 0 = λ k g. table_row file_words 4 (λ _. refl) m rs i k d h g in
    rw (e 0 (omega arith), e 1 (omega arith), e 2 (omega arith), e 3 (omega arith))

-- row j of those that a range names: of handlers, constants, names and lines
module _ (m : ℕ) (g : Range) (j : ℕ) (h : j < g.number) where
  pub handler_back : (t l : List HandlerRow) → Own t g l → (d : HandlerRow) → handler_row_at (table_of handler_words m t) (g.first + j) ≡ get_or l j d
  handler_back t l o d =
      let e : (k : ℕ) → k < 4 → word 4 (table_of handler_words m t) (g.first + j) k ≡ get_or (handler_words (get_or l j d)) k 0 = λ k q. own_word handler_words 4 (λ _. refl) m t g l o j k d h q in
      rw (e 0 (omega arith), e 1 (omega arith), e 2 (omega arith), e 3 (omega arith))

  pub pool_back : (t l : List PoolRow) → Own t g l → (d : PoolRow) → pool_row_at (table_of pool_words m t) (g.first + j) ≡ get_or l j d
  pool_back t l o d =
      let e : (k : ℕ) → k < 3 → word 3 (table_of pool_words m t) (g.first + j) k ≡ get_or (pool_words (get_or l j d)) k 0 = λ k q. own_word pool_words 3 (λ _. refl) m t g l o j k d h q in
      rw (e 0 (omega arith), e 1 (omega arith), e 2 (omega arith))

  pub name_back : (t l : List NameRow) → Own t g l → (d : NameRow) → word 1 (table_of name_words m t) (g.first + j) 0 ≡ (get_or l j d).index
  name_back t l o d = own_word name_words 1 (λ _. refl) m t g l o j 0 d h (omega arith)

  pub line_back : (t l : List LineRow) → Own t g l → (d : LineRow) → line_row_at (table_of line_words m t) (g.first + j) ≡ get_or l j d
  line_back t l o d =
      let e0 = own_word line_words 2 (λ _. refl) m t g l o j 0 d h (omega arith) in
      let e1 = own_word line_words 2 (λ _. refl) m t g l o j 1 d h (omega arith) in
      rw (rw add-zero at e0, e1)

-- the lines that a range names, read off the table, are the list; and so the targets of the handlers that a range names
pub lines_back : (m : ℕ) (t : List LineRow) (g : Range) (l : List LineRow) → Own t g l → rows_from (line_row_at (table_of line_words m t)) g.first g.number ≡ l
lines_back m t g l o =
    rw o.number
    (rows_back (line_row_at (table_of line_words m t)) g.first l (line_row 0 0) (λ j h. line_back m g j (rw o.number h) t l o (line_row 0 0)))

pub targets_back : (m : ℕ) (t : List HandlerRow) (g : Range) (l : List HandlerRow) → Own t g l
    → rows_from (λ (i : ℕ). word 4 (table_of handler_words m t) i 3) g.first g.number ≡ map (λ (h : HandlerRow). h.target) l
targets_back m t g l o =
    let d : HandlerRow = record { kind = 0; begin = 0; end = 0; target = 0 } in
    let target : HandlerRow → ℕ = λ h. h.target in
    rw (o.number, ← length-map l target)
    (rows_back (λ (i : ℕ). word 4 (table_of handler_words m t) i 3) g.first (map target l) 0 (λ j h.
    own_word handler_words 4 (λ _. refl) m t g l o j 3 d (rw o.number (rw length-map at h)) (omega arith) ∙ sym (get_or-map target l j d)))
