-- The pattern that lent tables say, read off the file's bytes and the words, is the pattern of what was read.
-- Assumes nothing.
use Prim.Native.Nat.{ℕ, zero, suc, ◌+◌, ◌*◌, ◌≤◌, ◌<◌}
use native.Mathlib.Nat.{le_of_suc-le-suc, zero-add}
use native.Mathlib.Omega.{arith}
use mathlib.Core.Path.{◌≡◌, refl, sym, ap, ◌∙◌}
use mathlib.Core.List.{List, [], ◌∷◌}
use lib.ListN.{length, get_or, take, drop}
use Rattle.format.specs.Bytes.{ok}
use Rattle.format.specs.Rows.{RecordRow, record_width, record_words, handler_words, line_words}
use Rattle.format.specs.Irep.{head_at, body, Rec}
use Rattle.format.specs.Debug.{File}
use Rattle.format.specs.Allowance.{Allowance}
use Rattle.format.specs.File.{Content}
use Rattle.format.specs.Load.{Nine, records_of, names_of, files_of, tables_of, words_of, loading}
use Rattle.format.specs.Line.{rows_from, line_row_at}
use Rattle.format.specs.Lookup.{word, record_word, record_row_at}
use Rattle.format.specs.Pattern.{Record, record_of, records_with, pattern_of, blank}
use Rattle.format.proofs.Places.{records_length}
use Rattle.layout.proofs.Own.{Owns, owns, table_row}
use Rattle.layout.proofs.Inside.{loading_inside, Held, loading_held}
use Rattle.layout.proofs.Back.{table_length, rows_back, lines_back, targets_back}

-- record i of a pattern is that of record i of the file
pub pattern_length : (f : List ℕ) (rs : List Rec) (fss : List (List File)) → length (records_with f rs fss) ≡ length rs
pattern_length f [] fss = refl
pattern_length f (r ∷ rs) fss = ap suc (pattern_length f rs (drop 1 fss))

pub pattern_at : (f : List ℕ) (rs : List Rec) (fss : List (List File)) (i : ℕ) (d : Rec) (D : Record) → i < length rs
    → get_or (records_with f rs fss) i D ≡ record_of f (get_or rs i d) (get_or fss i [])
pattern_at f [] fss i d D h = absurd (omega arith)
pattern_at f (r ∷ rs) fss zero d D h = refl
pattern_at f (r ∷ rs) [] (suc i) d D h = pattern_at f rs [] i d D (le_of_suc-le-suc h)
pattern_at f (r ∷ rs) (fs ∷ fss) (suc i) d D h = pattern_at f rs fss i d D (le_of_suc-le-suc h)

-- record row r as the words say it
abbrev pub record_said : List ℕ → List ℕ → List ℕ → List ℕ → ℕ → Record
record_said f recs hs ls r =
    record {
      nregs = record_word recs r 2;
      rlen = record_word recs r 3;
      npool = record_word recs r 10;
      nsyms = record_word recs r 12;
      code = take (record_word recs r 5) (drop (record_word recs r 6) f);
      handlers = rows_from (λ (i : ℕ). word 4 hs i 3) (record_word recs r 7) (record_word recs r 8);
      lines = rows_from (line_row_at ls) (record_word recs r 17) (record_word recs r 18);
    }

module _ (f : List ℕ) (m : Nine) (c : Content) where
  zero_row : RecordRow
  zero_row = record_row_at [] 0

  -- of any content
  pub record_said_lem : (i : ℕ) (d : Rec) → i < length (records_of c)
      → record_said f (words_of m (tables_of c)).records (words_of m (tables_of c)).handlers (words_of m (tables_of c)).lines i
      ≡ record_of f (get_or (records_of c) i d) (get_or (files_of c) i [])
  record_said_lem i d h =
      let g : i < length (tables_of c).records = rw records_length h in
      said (get_or (tables_of c).records i zero_row) (λ k q. table_row record_words record_width (λ _. refl) m.records (tables_of c).records i k zero_row g q) (owns c i h d zero_row)
    where
      said : (R : RecordRow) → ((k : ℕ) → k < record_width → record_word (words_of m (tables_of c)).records i k ≡ get_or (record_words R) k 0)
          → Owns (tables_of c) R (get_or (records_of c) i d) (get_or (names_of c) i []) (get_or (files_of c) i [])
          → record_said f (words_of m (tables_of c)).records (words_of m (tables_of c)).handlers (words_of m (tables_of c)).lines i
          ≡ record_of f (get_or (records_of c) i d) (get_or (files_of c) i [])
      said R e o =
          rw (
            e 2 (omega arith),
            e 3 (omega arith),
            e 10 (omega arith),
            e 12 (omega arith),
            e 5 (omega arith),
            e 6 (omega arith),
            e 7 (omega arith),
            e 8 (omega arith),
            e 17 (omega arith),
            e 18 (omega arith),
            o.nregs,
            o.rlen,
            o.pool.number,
            o.symbols.number,
            o.ilen,
            o.place,
            targets_back m.handlers (tables_of c).handlers R.handlers _ o.handlers,
            lines_back m.lines (tables_of c).lines R.lines _ o.lines,
          )

  pub pattern_said : rows_from (record_said f (words_of m (tables_of c)).records (words_of m (tables_of c)).handlers (words_of m (tables_of c)).lines) 0 (length (records_of c))
      ≡ pattern_of f c
  pattern_said =
      let w = words_of m (tables_of c) in
      let view : ℕ → Record = record_said f w.records w.handlers w.lines in
      let n = pattern_length f (records_of c) (files_of c) in
      let d : Rec = record { head = head_at [] 0; place = 0; body = body [] [] [] } in
      rw (← n)
      (rows_back view 0 (pattern_of f c) blank (λ j h.
      let g : j < length (records_of c) = omega arith in
      ap view (zero-add j) ∙ record_said_lem j d g ∙ sym (pattern_at f (records_of c) (files_of c) j d blank g)))

-- What record row r of filled tables names lies inside the file and the tables.
pub record RowInside (f recs hs ls : List ℕ) (r : ℕ) : Type 0 where
  pub inside : r * record_width + record_width ≤ length recs
  pub bytes : record_word recs r 6 + record_word recs r 5 ≤ length f
  pub handling : (record_word recs r 7 + record_word recs r 8) * 4 ≤ length hs
  pub lined : (record_word recs r 17 + record_word recs r 18) * 2 ≤ length ls

pub row_inside : (f : List ℕ) (m : Nine) (a : Allowance) (c : Content) → loading f m a ≡ ok c → (i : ℕ) → i < length (records_of c)
    → RowInside f (words_of m (tables_of c)).records (words_of m (tables_of c)).handlers (words_of m (tables_of c)).lines i
row_inside f m a c loaded i h =
    let g : i < length (tables_of c).records = rw records_length h in
    let none = record_row_at [] 0 in
    said (get_or (tables_of c).records i none) (λ k q. table_row record_words record_width (λ _. refl) m.records (tables_of c).records i k none g q) (owns c i h d none)
  where
    d : Rec
    d = record { head = head_at [] 0; place = 0; body = body [] [] [] }

    room : Held m c
    room = loading_held f m a c loaded

    said : (R : RecordRow) → ((k : ℕ) → k < record_width → record_word (words_of m (tables_of c)).records i k ≡ get_or (record_words R) k 0)
        → Owns (tables_of c) R (get_or (records_of c) i d) (get_or (names_of c) i []) (get_or (files_of c) i [])
        → RowInside f (words_of m (tables_of c)).records (words_of m (tables_of c)).handlers (words_of m (tables_of c)).lines i
    said R e o =
        record {
          inside =
              let n = records_length c in
              rw (table_length record_words record_width (λ _. refl) (omega arith) m.records (tables_of c).records room.records) (omega (arith, room.records));
          bytes = rw (e 5 (omega arith), e 6 (omega arith), o.ilen, o.place) ((loading_inside f m a c loaded).records i d h).bytes;
          handling =
              rw (e 7 (omega arith), e 8 (omega arith), table_length handler_words 4 (λ _. refl) (omega arith) m.handlers (tables_of c).handlers room.handlers)
              (omega (arith, room.handlers, o.handlers.inside));
          lined =
              rw (e 17 (omega arith), e 18 (omega arith), table_length line_words 2 (λ _. refl) (omega arith) m.lines (tables_of c).lines room.lines)
              (omega (arith, room.lines, o.lines.inside));
        }
