-- What the struct of a record's row says: the words of its row.
-- Assumes nothing.
use Prim.Native.Nat.{ℕ, ◌*◌, ◌/◌, ◌≤◌, ◌<◌}
use native.Mathlib.Nat.{zero-add, sub-zero}
use native.Mathlib.Omega.{arith}
use mathlib.Core.Path.{◌≡◌, refl, sym, ap, ◌∙◌}
use mathlib.Core.Bool.{Bool, true, false, cond}
use mathlib.Core.List.{List, []}
use lib.Dec.{leb}
use lib.ListN.{length, get_or, take, drop, replicate, length-drop, get_or-eq_default}
use lib.Seq.{length-take-le, get_or-take, get_or-drop}
use borrow.Author.Tests.{lt-ltb, leb-true, leb-false}
use Rattle.format.specs.Rows.{RecordRow, record_width, record_words, table_of}
use Rattle.format.specs.Line.{rows_from}
use Rattle.format.specs.Lookup.{record_word, record_row_at, has_row}
use Rattle.layout.proofs.Back.{rows_back, table_zero, has_row_lem, record_back}
use Rattle.records_row.specs.Row.{struct_of, struct_words, zero_row, row_at}

-- The struct of a whole row has its words, all of them and in order.
words_at : (t : List ℕ) (i : ℕ) → i < length t / record_width → struct_words (row_at t i) ≡ rows_from (record_word t i) 0 record_width
unfolding row_at rows_from
words_at t i h = rw (lt-ltb i (length t / record_width) h)

pub row_words : (t : List ℕ) (i : ℕ) → i < length t / record_width → struct_words (row_at t i) ≡ take record_width (drop (i * record_width) t)
row_words t i h =
    let long : length (take record_width (drop (i * record_width) t)) ≡ record_width = length-take-le record_width (drop (i * record_width) t) (rw length-drop (omega (arith, h))) in
    words_at t i h
    ∙ ap (rows_from (record_word t i) 0) (sym long)
    ∙ rows_back (record_word t i) 0 (take record_width (drop (i * record_width) t)) 0 (λ j g.
    let k : j < record_width = rw long at g in
    ap (record_word t i) (zero-add j) ∙ sym (get_or-take record_width (drop (i * record_width) t) j 0 k ∙ get_or-drop (i * record_width) t j 0))

-- zero words, whether they are a whole row or not
zeros_at : (t : List ℕ) (i : ℕ) → ((k : ℕ) → record_word t i k ≡ 0) → (b : Bool) → cond b (struct_of (record_row_at t i)) zero_row ≡ struct_of (record_row_at [] 0)
unfolding zero_row
zeros_at t i z false = refl
zeros_at t i z true = rw (z 0, z 1, z 2, z 3, z 4, z 5, z 6, z 7, z 8, z 9, z 10, z 11, z 12, z 13, z 14, z 15, z 16, z 17, z 18, z 19, z 20)

-- The structs of a table that holds the rows rs: row i, and zeros past the last.
pub table_rows : (m : ℕ) (rs : List RecordRow) → length rs ≤ m / record_width → (i : ℕ) → row_at (table_of record_words m rs) i ≡ struct_of (get_or rs i (record_row_at [] 0))
unfolding row_at
table_rows m rs fit i = go (leb (length rs) i) refl
  where
    go : (b : Bool) → leb (length rs) i ≡ b → row_at (table_of record_words m rs) i ≡ struct_of (get_or rs i (record_row_at [] 0))
    go false e =
        let h : i < length rs = leb-false _ _ e in
        rw (has_row_lem record_words record_width (λ _. refl) (omega arith) m rs fit i h) (ap struct_of (record_back m rs i (record_row_at [] 0) h))
    go true e =
        let h : length rs ≤ i = leb-true _ _ e in
        let t = table_of record_words m rs in
        rw (get_or-eq_default rs (record_row_at [] 0) h)
        (zeros_at t i (λ k. table_zero record_words record_width (λ _. refl) m rs i k h) (has_row record_width t i))

-- Zero words give a row of zeros.
pub zero_row_lem : (m i : ℕ) → row_at (replicate m 0) i ≡ zero_row
unfolding zero_row
zero_row_lem m i = rw sub-zero at (table_rows m [] (omega arith) i)
