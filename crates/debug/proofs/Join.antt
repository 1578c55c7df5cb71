-- The DBG section over four tables agrees with the reading that knows no table.
-- Assumes nothing.
use Prim.Native.Nat.{ℕ, zero, suc, ◌+◌, ◌-◌, ◌*◌, ◌≤◌, ◌<◌}
use native.Mathlib.Omega.{arith}
use mathlib.Core.Path.{◌≡◌, refl, sym}
use mathlib.Core.Bool.{Bool, true, false, cond}
use mathlib.Core.List.{List, [], ◌∷◌, ◌++◌, append_assoc, append-nil}
use mathlib.Core.Option.{Option, none, some}
use lib.Dec.{leb, ltb, eqb}
use lib.ListN.{length, take, length-append}
use borrow.Author.Tests.{ltb-true, ltb-false}
use Rattle.format.specs.Bytes as bytes
use Rattle.format.specs.Bytes.{Answer, ok, refused, Step, has, u16_at, u32_at}
use Rattle.format.specs.Reading.{Read, Part, part, add, and_then, in_turn}
use Rattle.format.specs.Rows.{range, TextRow, NameRow, FileRow, LineRow, record_width, record_words, text_words, file_words, line_words, table_of}
use Rattle.format.specs.Irep.{Rec}
use Rattle.format.specs.Walk as format
use Rattle.format.specs.Lvar.{plain_text}
use Rattle.format.specs.Packed.{keeps}
use Rattle.format.specs.Debug.{FileHead, file_head, map_entry, after, goes_on, map_lines, file_lines, File, files_from, debug_record, Debug, debug_content, debug_section}
use Rattle.format.specs.Load.{joined, map_of_files, start, record_rows, file_rows, Nine}
use Rattle.format.proofs.Places.{file_rows_length, joined_append, joined_snoc, gathered_append, record_word_lem, files_put}
use Rattle.rows.specs.declared.Row.TheVariants.{Text}
use Rattle.rows.specs.Table.{Out, out, next, row_count, put_of, times}
use Rattle.rows.specs.Rows.{row_of}
use Rattle.rows.specs.Walk.{Run, go, stop, bind, walk}
use Rattle.rows.proofs.Join.{Ran, RowsRan, ran_bad, put_there, put_full, length_table, times_ran}
use Rattle.linemap.specs.Lines.{on_run, first_before, push_of, entry_put, lines_of}
use Rattle.debug.specs.Records.{Tabs, tabs, used_rows, Spot, spot, Filed, filed, Held, held, State, state, body_of, file_of, files_of, put_ranges, step_of, kids_of, used_up}
use Rattle.debug.specs.Section.{Tables, tables, Filled, filled, counts, Walked, walked_of, content_of, debug_of}

-- the lines of a file, in a table of m words
module _ (s : List ℕ) (kind end m : ℕ) where
  abbrev LinesRan : List LineRow → Read LineRow → Out → Type 0
  LinesRan rs r o = RowsRan line_words 2 (λ _. refl) (omega arith) m rs r o

  lines_ran : (n : ℕ) (e : LineRow) (last : Option ℕ) (at : ℕ) (rs : List LineRow) → length rs ≤ row_count m 2
      → LinesRan rs (map_lines s kind end n e last at) (lines_of s kind end n e last at (length rs) (table_of line_words m rs))
  unfolding lines_of entry_put push_of map_lines
  lines_ran zero e last at rs h = Ran.went at refl (rw append-nil h) (rw append-nil)
  lines_ran (suc n) e last at rs h = by_place (goes_on kind end at) refl (lines_ran n)
    where
      Later : Type 0
      Later =
          (e : LineRow) (last : Option ℕ) (at : ℕ) (rs : List LineRow) → length rs ≤ row_count m 2
          → LinesRan rs (map_lines s kind end n e last at) (lines_of s kind end n e last at (length rs) (table_of line_words m rs))

      Goal : Type 0
      Goal = LinesRan rs (map_lines s kind end (suc n) e last at) (lines_of s kind end (suc n) e last at (length rs) (table_of line_words m rs))

      by_room : goes_on kind end at ≡ true → (x : Step LineRow) → map_entry s kind e at ≡ ok x → keeps last x.it.line ≡ true → Later
          → (b : Bool) → ltb (length rs) (row_count m 2) ≡ b → Goal
      by_room g x q k ih true b =
          let l = length-append rs (x.it ∷ []) in
          let lt = ltb-true (length rs) (row_count m 2) b in
          rw (g, q, k, put_there line_words 2 (λ _. refl) (omega arith) m rs x.it x.next lt)
          (rw append_assoc at (ih (after kind x.it) (some x.it.line) x.next (rs ++ x.it ∷ []) (omega (arith, l))))
      by_room g x q k ih false b =
          let ge = ltb-false (length rs) (row_count m 2) b in
          rw (g, q, k, put_full line_words 2 (λ _. refl) (omega arith) m rs x.it x.next h ge)
          (Ran.full (λ f. omega (arith, length-append rs (x.it ∷ (map_lines s kind end n (after kind x.it) (some x.it.line) x.next).rows))) refl)

      by_line : goes_on kind end at ≡ true → (x : Step LineRow) → map_entry s kind e at ≡ ok x → Later → (b : Bool) → keeps last x.it.line ≡ b → Goal
      by_line g x q ih true k = by_room g x q k ih (ltb (length rs) (row_count m 2)) refl
      by_line g x q ih false k = rw (g, q, k) (ih (after kind x.it) (some x.it.line) x.next rs h)

      by_entry : goes_on kind end at ≡ true → (a : Answer (Step LineRow)) → map_entry s kind e at ≡ a → Later → Goal
      by_entry g (ok x) q ih = by_line g x q ih (keeps last x.it.line) refl
      by_entry g (refused k) q ih = rw (g, q) (ran_bad line_words 2 (λ _. refl) (omega arith) m rs k _ h refl)

      by_place : (b : Bool) → goes_on kind end at ≡ b → Later → Goal
      by_place true g ih = by_entry g (map_entry s kind e at) refl ih
      by_place false g ih = rw g (Ran.went at refl (rw append-nil h) (rw append-nil))

-- the row of a file behind others, of which the first has its lines from n on
abbrev file_row : ℕ → List File → File → FileRow
file_row n fs f = record { start = f.start; name = f.name; lines = range (n + length (map_of_files fs)) (length f.lines) }

rows_snoc : (n : ℕ) (fs : List File) (f : File) → file_rows n (fs ++ f ∷ []) ≡ file_rows n fs ++ file_row n fs f ∷ []
rows_snoc n [] f = let e : n + 0 ≡ n = omega arith in rw e
rows_snoc n (g ∷ fs) f =
    let e : n + length g.lines + length (map_of_files fs) ≡ n + length (map_of_files (g ∷ fs)) = rw length-append (omega arith) in
    rw (rows_snoc (n + length g.lines) fs f, e)

map_snoc : (fs : List File) (f : File) → map_of_files (fs ++ f ∷ []) ≡ map_of_files fs ++ f.lines
map_snoc fs f = rw (gathered_append (λ x. x.lines) fs (f ∷ []), append-nil)

-- tables of mf and ml words have rows for files and for their lines
record Room (mf ml : ℕ) (fs : List File) : Type 0 where
  files : length fs ≤ row_count mf 4
  lines : length (map_of_files fs) ≤ row_count ml 2

room_less : (mf ml : ℕ) (fs gs : List File) → Room mf ml (fs ++ gs) → Room mf ml fs
room_less mf ml fs gs r =
    let f = length-append fs gs in
    let l : length (map_of_files (fs ++ gs)) ≡ length (map_of_files fs) + length (map_of_files gs) = rw (gathered_append (λ x. x.lines) fs gs, length-append) in
    record { files = omega arith; lines = omega arith }

-- the file of a head
abbrev file_at : List ℕ → FileHead → File
file_at s h = record { start = h.start; name = h.name; lines = (file_lines s h).rows }

-- both tables hold the files fs and their lines
abbrev held_files : ℕ → ℕ → ℕ → List File → Spot
held_files mf ml at fs =
    spot at (used_rows (length fs) (length (map_of_files fs))) (tabs (table_of file_words mf (file_rows 0 fs)) (table_of line_words ml (map_of_files fs)))

module _ (s : List ℕ) (names mf ml : ℕ) where
  abbrev here : ℕ → List File → Spot
  here at fs = held_files mf ml at fs

  -- one file, behind fs
  module _ (h : FileHead) (fs : List File) (room : Room mf ml fs) (free : length fs < row_count mf 4) where
    abbrev lines : Read LineRow
    lines = file_lines s h

    abbrev file : File
    file = file_at s h

    abbrev body : Run Filed Tabs
    body = body_of s h (here 0 fs).used (here 0 fs).tabs

    abbrev FileRan : Type 0
    FileRan = Ran lines.end (Room mf ml (fs ++ file ∷ [])) (λ at. body ≡ go (filed (some h.start) (here at (fs ++ file ∷ [])))) (λ k. (t : Tabs) × (body ≡ stop k t))

    put_file : (at : ℕ) → put_of at (length fs) (table_of file_words mf (file_rows 0 fs)) (file_words (file_row 0 fs file))
        ≡ out (next at (length (fs ++ file ∷ []))) (table_of file_words mf (file_rows 0 (fs ++ file ∷ [])))
    put_file at =
        let n = file_rows_length 0 fs in
        let l : length (file_rows 0 fs ++ file_row 0 fs file ∷ []) ≡ length (fs ++ file ∷ []) = rw (length-append, length-append, n) in
        rw (rows_snoc 0 fs file) (rw (l, n) at (put_there file_words 4 (λ _. refl) (omega arith) mf (file_rows 0 fs) (file_row 0 fs file) at (omega arith)))

    fits : length (map_of_files fs ++ lines.rows) ≤ row_count ml 2 → Room mf ml (fs ++ file ∷ [])
    fits x = record { files = rw length-append (omega arith); lines = rw (map_snoc fs file) x }

    by_lines : LinesRan s h.kind (h.next + h.count) ml (map_of_files fs) lines
        (lines_of s h.kind (h.next + h.count) h.count (first_before h.kind h.start) none h.next (length (map_of_files fs)) (table_of line_words ml (map_of_files fs))) → FileRan
    unfolding body_of
    by_lines (Ran.went at p x d) =
        let c : length (map_of_files fs ++ lines.rows) - length (map_of_files fs) ≡ length lines.rows = rw length-append (omega arith) in
        let z : 0 + length (map_of_files fs) ≡ length (map_of_files fs) = omega arith in
        Ran.went at p (fits x) (rw (d, c, rw z at (put_file at), map_snoc fs file))
    by_lines (Ran.stop k p x d) = rw (p, d) (Ran.stop k refl (fits x) (_, refl))
    by_lines (Ran.full x d) = rw d (Ran.full (λ r. x (rw (map_snoc fs file) at r.lines)) (_, refl))

    file_ran : FileRan
    file_ran =
        by_lines (lines_ran s h.kind (h.next + h.count) ml h.count (first_before h.kind h.start) none h.next (map_of_files fs) room.lines)

  abbrev FilesRan : List File → Read File → Run Spot Tabs → Type 0
  FilesRan fs r o = Ran r.end (Room mf ml (fs ++ r.rows)) (λ at. o ≡ go (here at (fs ++ r.rows))) (λ k. (t : Tabs) × (o ≡ stop k t))

  files_ran : (n : ℕ) (last : Option ℕ) (at : ℕ) (fs : List File) → Room mf ml fs → FilesRan fs (files_from s names n last at) (files_of s names n (filed last (here at fs)))
  unfolding files_from files_of file_of
  files_ran zero last at fs room = Ran.went at refl (rw append-nil room) (rw (append-nil fs))
  files_ran (suc n) last at fs room = by_head (file_head s names last at) refl (files_ran n)
    where
      Later : Type 0
      Later = (last : Option ℕ) (at : ℕ) (fs : List File) → Room mf ml fs → FilesRan fs (files_from s names n last at) (files_of s names n (filed last (here at fs)))

      Goal : Type 0
      Goal = FilesRan fs (files_from s names (suc n) last at) (files_of s names (suc n) (filed last (here at fs)))

      whole : length (table_of file_words mf (file_rows 0 fs)) ≡ mf
      whole = length_table file_words 4 (λ _. refl) (omega arith) mf (file_rows 0 fs) (omega (arith, file_rows_length 0 fs, room.files))

      by_file : (h : FileHead) (free : length fs < row_count mf 4) → file_head s names last at ≡ ok h → ltb (length fs) (row_count mf 4) ≡ true → Later → FileRan h fs room free → Goal
      by_file h free q b ih (Ran.went a p x d) =
          rw (q, whole, b, d, p) (rw (append_assoc fs (file_at s h ∷ []) _) at (ih (some h.start) a (fs ++ file_at s h ∷ []) x))
      by_file h free q b ih (Ran.stop k p x (t, d)) = rw (q, whole, b, d, p) (Ran.stop k refl x (_, refl))
      by_file h free q b ih (Ran.full x (t, d)) =
          rw (q, whole, b, d)
          (Ran.full (λ r. x (room_less mf ml (fs ++ file_at s h ∷ []) (and_then (file_lines s h).end (files_from s names n (some h.start))).rows
          (rw (append_assoc fs (file_at s h ∷ [])) r))) (_, refl))

      by_row : (h : FileHead) → file_head s names last at ≡ ok h → Later → (b : Bool) → ltb (length fs) (row_count mf 4) ≡ b → Goal
      by_row h q ih true b = let free = ltb-true (length fs) (row_count mf 4) b in by_file h free q b ih (file_ran h fs room free)
      by_row h q ih false b =
          let ge = ltb-false (length fs) (row_count mf 4) b in
          rw (q, whole, b) (Ran.full (λ r. omega (arith, r.files, length-append fs (file_at s h ∷ (and_then (file_lines s h).end (files_from s names n (some h.start))).rows))) (_, refl))

      by_head : (a : Answer FileHead) → file_head s names last at ≡ a → Later → Goal
      by_head (ok h) q ih = by_row h q ih (ltb (length fs) (row_count mf 4)) refl
      by_head (refused k) q ih = rw q (Ran.stop k refl (rw append-nil room) (_, refl))

-- the walk, with so many words for the records, the files and the lines; the records have the names nss
module _ (s : List ℕ) (names m mf ml : ℕ) (nss : List (List NameRow)) where
  abbrev R : List Rec → List (List File) → List ℕ
  R rs fss = table_of record_words m (record_rows start rs nss fss [])

  -- the records rs, of which the first have the files fss
  abbrev there : List Rec → List (List File) → ℕ → State
  there rs fss at = state (length fss) (R rs fss) (held_files mf ml at (joined fss))

  abbrev WalkRan : List Rec → List (List File) → Read (List File) → Run State Held → Type 0
  WalkRan rs fss r o =
      Ran r.end (Room mf ml (joined (fss ++ r.rows))) (λ at. o ≡ go (there rs (fss ++ r.rows) at)) (λ k. (h : Held) × (o ≡ stop k h))

  abbrev reading_of : List Rec → ℕ → ℕ → Read (List File)
  reading_of rs pending at = format.walk (debug_record s names) (leb (length s)) rs pending at

  abbrev run_of : ℕ → ℕ → State → Run State Held
  run_of left pending st = walk (step_of s names) kids_of (used_up s) left pending st

  -- one visit: r is the record, behind qs
  module _ (qs : List Rec) (r : Rec) (rs : List Rec) (fss : List (List File)) (e : length fss ≡ length qs) (room : Room mf ml (joined fss)) (pending at : ℕ) where
    abbrev all : List Rec
    all = qs ++ r ∷ rs

    abbrev st : State
    st = there all fss at

    abbrev D : Read File
    D = files_from s names (u16_at s (at + 4)) none (at + 6)

    abbrev F : Run Spot Tabs
    F = files_of s names (u16_at s (at + 4)) (filed none (held_files mf ml (at + 6) (joined fss)))

    abbrev Goal : Type 0
    Goal = WalkRan all fss (reading_of (r ∷ rs) (suc pending) at) (run_of (suc (length rs)) (suc pending) st)

    -- the visits after its own, where its files are read
    abbrev Later : Type 0
    Later =
        (fs : List File) (a : ℕ) → Room mf ml (joined (fss ++ fs ∷ []))
        → WalkRan all (fss ++ fs ∷ []) (reading_of rs (r.head.rlen + pending) a) (run_of (length rs) (r.head.rlen + pending) (there all (fss ++ fs ∷ []) a))

    rlen_is : kids_of st ≡ r.head.rlen
    rlen_is = rw e (record_word_lem m start qs r rs nss fss 3 (omega arith))

    put_is : (fs : List File)
        → put_ranges (R all fss) (length fss * record_width) (held_files mf ml at (joined fss)).used (held_files mf ml at (joined fss ++ fs)).used ≡ R all (fss ++ fs ∷ [])
    put_is fs =
        let f : length (joined fss ++ fs) - length (joined fss) ≡ length fs = rw length-append (omega arith) in
        let l : length (map_of_files (joined fss ++ fs)) - length (map_of_files (joined fss)) ≡ length (map_of_files fs) =
        rw (gathered_append (λ x. x.lines) (joined fss) fs, length-append) (omega arith) in
        let y : 0 + length (joined fss) ≡ length (joined fss) = omega arith in
        let z : 0 + length (map_of_files (joined fss)) ≡ length (map_of_files (joined fss)) = omega arith in
        rw (f, l, e) (rw (y, z) at (files_put m start qs r rs nss fss fs e))

    used_up_lem : leb (length s) at ≡ true → Goal
    unfolding walk format.walk
    used_up_lem h = rw h (Ran.went at refl (rw append-nil room) (rw (append-nil fss)))

    module _ (left : leb (length s) at ≡ false) where
      run_is : run_of (suc (length rs)) (suc pending) st ≡ bind (step_of s names st) (run_of (length rs) (r.head.rlen + pending))
      unfolding walk
      run_is = rw (left, rlen_is)

      read_is : reading_of (r ∷ rs) (suc pending) at ≡ add (debug_record s names r at).it (and_then (debug_record s names r at).end (reading_of rs (r.head.rlen + pending)))
      unfolding format.walk
      read_is = rw left

      short : has s at 6 ≡ false → Goal
      unfolding step_of debug_record
      short h = rw (run_is, read_is, h) (Ran.stop 7 refl (rw (joined_snoc fss [], append-nil) room) (_, refl))

      module _ (six : has s at 6 ≡ true) where
        -- what the size says of the files that are read
        abbrev sized : Run Spot Tabs → Run State Held
        sized o =
            on_run o
            (λ sp.
            cond (eqb (sp.at - at) (u32_at s at))
            (go (state (length fss + 1) (put_ranges (R all fss) (length fss * record_width) st.spot.used sp.used) sp))
            (stop 12 (held (R all fss) sp.tabs)))
            (λ k t. stop k (held (R all fss) t))

        step_is : step_of s names st ≡ sized F
        unfolding step_of
        step_is = rw six

        part_is : debug_record s names r at ≡ part D.rows (bytes.bind D.end (λ a. cond (eqb (a - at) (u32_at s at)) (ok a) (refused 12)))
        unfolding debug_record
        part_is = rw six

        roomy : Room mf ml (joined fss ++ D.rows) → Room mf ml (joined (fss ++ D.rows ∷ []))
        roomy x = rw (joined_snoc fss D.rows) x

        by_size : Later → (a : ℕ) → D.end ≡ ok a → Room mf ml (joined fss ++ D.rows) → F ≡ go (held_files mf ml a (joined fss ++ D.rows))
            → (b : Bool) → eqb (a - at) (u32_at s at) ≡ b → Goal
        by_size ih a p x d true b =
            let l : length fss + 1 ≡ length (fss ++ D.rows ∷ []) = sym (length-append fss (D.rows ∷ [])) in
            let stepped : step_of s names st ≡ go (there all (fss ++ D.rows ∷ []) a) = rw (step_is, d, b, put_is D.rows, l, joined_snoc fss D.rows) in
            rw (run_is, read_is, stepped, part_is, p, b) (rw append_assoc at (ih D.rows a (roomy x)))
        by_size ih a p x d false b = rw (run_is, read_is, step_is, part_is, d, p, b) (Ran.stop 12 refl (roomy x) (_, refl))

        by_files : Later → FilesRan s names mf ml (joined fss) D F → Goal
        by_files ih (Ran.went a p x d) = by_size ih a p x d (eqb (a - at) (u32_at s at)) refl
        by_files ih (Ran.stop k p x (t, d)) = rw (run_is, read_is, step_is, part_is, d, p) (Ran.stop k refl (roomy x) (_, refl))
        by_files ih (Ran.full x (t, d)) =
            rw (run_is, read_is, step_is, part_is, d)
            (Ran.full
            (λ y.
            let g = (and_then (bytes.bind D.end (λ a. cond (eqb (a - at) (u32_at s at)) (ok a) (refused 12))) (reading_of rs (r.head.rlen + pending))).rows in
            x (room_less mf ml (joined fss ++ D.rows) (joined g) (rw (append_assoc (joined fss) D.rows (joined g)) (rw (joined_append fss (D.rows ∷ g)) at y))))
            (_, refl))

      by_bytes : Later → (b : Bool) → has s at 6 ≡ b → Goal
      by_bytes ih true h = by_files h ih (files_ran s names mf ml (u16_at s (at + 4)) none (at + 6) (joined fss) room)
      by_bytes ih false h = short h

    visit_ran : Later → (b : Bool) → leb (length s) at ≡ b → Goal
    visit_ran ih true h = used_up_lem h
    visit_ran ih false h = by_bytes h ih (has s at 6) refl

  walk_ran : (rs qs : List Rec) (fss : List (List File)) (pending at : ℕ) → length fss ≡ length qs → Room mf ml (joined fss)
      → WalkRan (qs ++ rs) fss (reading_of rs pending at) (run_of (length rs) pending (there (qs ++ rs) fss at))
  unfolding walk format.walk
  walk_ran [] qs fss pending at e room = Ran.went at refl (rw append-nil room) (rw (append-nil fss))
  walk_ran (r ∷ rs) qs fss zero at e room = Ran.went at refl (rw append-nil room) (rw (append-nil fss))
  walk_ran (r ∷ rs) qs fss (suc pending) at e room =
      visit_ran qs r rs fss e room pending at
      (λ fs a y. rw (append_assoc qs (r ∷ []) rs) at (walk_ran rs (qs ++ r ∷ []) (fss ++ fs ∷ []) (r.head.rlen + pending) a (rw (length-append, length-append, e)) y))
      (leb (length s) at)
      refl

-- the section: m has the sizes of the tables, and the records rs have the names nss
module _ (m : Nine) (base : ℕ) (rs : List Rec) (nss : List (List NameRow)) where
  -- what the tables hold once the section is read as d
  abbrev pub held_debug : Debug → Tables
  held_debug d =
      tables (table_of record_words m.records (record_rows start rs nss d.files []))
      (table_of text_words m.file_names d.file_names)
      (table_of file_words m.files (file_rows 0 (joined d.files)))
      (table_of line_words m.lines (map_of_files (joined d.files)))

  -- the tables have rows for all file names, debug files and lines
  abbrev pub AllRoom : Debug → Type 0
  AllRoom d =
      (length d.file_names ≤ row_count m.file_names 2)
      × (length (joined d.files) ≤ row_count m.files 4)
      × (length (map_of_files (joined d.files)) ≤ row_count m.lines 2)

  abbrev pub SectionRan : Part Debug → Filled → Type 0
  SectionRan p o =
      Ran p.end (AllRoom p.it)
      (λ size.
      o
      ≡ filled (counts size (length p.it.file_names) (length (joined p.it.files)) (length (map_of_files (joined p.it.files)))) (held_debug p.it))
      (λ k. o.ans ≡ refused k)

  abbrev empty : Debug
  empty = record { file_names = []; files = [] }

  no_rows : (k : ℕ) (t : Tables) → SectionRan (part empty (refused k)) (filled (refused k) t)
  no_rows k t = Ran.stop k refl (omega arith, omega arith, omega arith) refl

  -- inside the section
  module _ (s : List ℕ) where
    abbrev O : Filled
    O = content_of s base (length rs) (held_debug empty)

    abbrev P : Part Debug
    P = debug_content s base rs

    no_count : has s 8 2 ≡ false → SectionRan P O
    unfolding content_of debug_content
    no_count h = rw h (no_rows 7 (held_debug empty))

    module _ (two : has s 8 2 ≡ true) where
      abbrev S : Read TextRow
      S = in_turn (plain_text s base) (u16_at s 8) 10

      abbrev W : ℕ → Read (List File)
      W a = format.walk (debug_record s (u16_at s 8)) (leb (length s)) rs 1 a

      abbrev run : ℕ → Run State Held
      run a = walk (step_of s (u16_at s 8)) kids_of (used_up s) (length rs) 1 (there s (u16_at s 8) m.records m.files m.lines nss rs [] a)

      -- what the walk makes of the tables, beside that of the file names
      abbrev walked_all : Run State Held → Filled
      walked_all o =
          on_run o
          (λ st.
          filled (counts (length s) (length S.rows) st.spot.used.files st.spot.used.lines)
          (tables st.records (table_of text_words m.file_names S.rows) st.spot.tabs.files st.spot.tabs.lines))
          (λ k h. filled (refused k) (tables h.records (table_of text_words m.file_names S.rows) h.tabs.files h.tabs.lines))

      -- both sides, once the file names are read and their rows are there
      module _ (a : ℕ) (p : S.end ≡ ok a) (x : length S.rows ≤ row_count m.file_names 2)
          (d : times (row_of s base Text) (u16_at s 8) 10 0 (table_of text_words m.file_names []) ≡ out (next a (length S.rows)) (table_of text_words m.file_names S.rows)) where
        part_all : P ≡ part (record { file_names = S.rows; files = (W a).rows }) (bytes.bind (W a).end (λ _. ok (length s)))
        unfolding debug_content
        part_all = rw (two, p)

        run_all : O ≡ walked_all (run a)
        unfolding content_of walked_of
        run_all = let z : length rs - 0 ≡ length rs = omega arith in rw (two, d, z) (by_run (run a))
          where
            by_run : (o : Run State Held)
                → let w : Walked =
                on_run o
                (λ st. record { ans = counts (length s) (length S.rows) st.spot.used.files st.spot.used.lines; held = held st.records st.spot.tabs })
                (λ k h. record { ans = refused k; held = h }) in
                filled w.ans (tables w.held.records (table_of text_words m.file_names S.rows) w.held.tabs.files w.held.tabs.lines) ≡ walked_all o
            by_run (go st) = refl
            by_run (stop k h) = refl

        by_walk : WalkRan s (u16_at s 8) m.records m.files m.lines nss rs [] (W a) (run a) → SectionRan P O
        by_walk (Ran.went b q y g) = rw (run_all, part_all, q, g) (Ran.went (length s) refl (x, y.files, y.lines) refl)
        by_walk (Ran.stop k q y (t, g)) = rw (run_all, part_all, q, g) (Ran.stop k refl (x, y.files, y.lines) refl)
        by_walk (Ran.full y (t, g)) = rw (run_all, part_all, g) (Ran.full (λ r. y (record { files = r.1; lines = r.2 })) refl)

      by_names : RowsRan text_words 2 (λ _. refl) (omega arith) m.file_names [] S (times (row_of s base Text) (u16_at s 8) 10 0 (table_of text_words m.file_names [])) → SectionRan P O
      unfolding content_of debug_content
      by_names (Ran.went a p x d) =
          by_walk a p x d (walk_ran s (u16_at s 8) m.records m.files m.lines nss rs [] [] 1 a refl (record { files = omega arith; lines = omega arith }))
      by_names (Ran.stop k p x d) = rw (two, p, d) (Ran.stop k refl (x, omega arith, omega arith) refl)
      by_names (Ran.full x d) = rw (two, d) (Ran.full (λ r. x r.0) refl)

      names_ran : SectionRan P O
      names_ran =
          by_names (times_ran text_words 2 (λ _. refl) (omega arith) m.file_names (row_of s base Text) (plain_text s base) (λ _ _ _. refl) (u16_at s 8) 10 [] (omega arith))

    content_ran : (b : Bool) → has s 8 2 ≡ b → SectionRan P O
    content_ran true h = names_ran h
    content_ran false h = no_count h

  -- the section goes on with its size where all fits, with the rows of the reading; else it stops by the reading's number, or by 14
  pub debug_ran : (f : List ℕ) → SectionRan (debug_section f base rs) (debug_of f base (length rs) (held_debug empty))
  unfolding debug_of debug_section
  debug_ran f = by_header (has f 0 8) refl
    where
      by_bytes_left : has f 0 8 ≡ true → (b : Bool) → leb (u32_at f 4) (length f) ≡ b → SectionRan (debug_section f base rs) (debug_of f base (length rs) (held_debug empty))
      by_bytes_left h true b = rw (h, b) (content_ran (take (u32_at f 4) f) (has (take (u32_at f 4) f) 8 2) refl)
      by_bytes_left h false b = rw (h, b) (no_rows 7 (held_debug empty))

      by_header : (b : Bool) → has f 0 8 ≡ b → SectionRan (debug_section f base rs) (debug_of f base (length rs) (held_debug empty))
      by_header true h = by_bytes_left h (leb (u32_at f 4) (length f)) refl
      by_header false h = rw h (no_rows 7 (held_debug empty))
