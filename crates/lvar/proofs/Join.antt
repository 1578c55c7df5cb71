-- The LVAR section over three tables agrees with the reading that knows no table.
-- Assumes nothing.
use Rattle.std.proofs.Common.{◌≡◌, ℕ, zero, suc, ◌+◌, ◌-◌, ◌*◌, ◌≤◌, Bool, true, false, cond, eqb, leb, List, [], ◌∷◌, ◌++◌, length, take, sym, refl, append_assoc, append-nil, arith, length-append}
use Rattle.format.specs.Bytes as bytes
use Rattle.format.specs.Bytes.{Answer, ok, refused, has, u32_at}
use Rattle.format.specs.Reading.{Read, Part, part, add, and_then, in_turn}
use Rattle.format.specs.Rows.{TextRow, NameRow, record_width, record_words, text_words, name_words, table_of}
use Rattle.format.specs.Irep.{Rec}
use Rattle.format.specs.Walk as format
use Rattle.format.specs.Walk.{rlens, visits}
use Rattle.format.specs.Line.{rows_from}
use Rattle.format.specs.Lvar.{Lvar, plain_text, name_entry, record_names, lvar_section}
use Rattle.format.specs.Debug.{File}
use Rattle.format.specs.Load.{joined, start, record_rows, Nine}
use Rattle.format.proofs.Answers.{in_turn_all}
use Rattle.format.proofs.Places.{joined_append, joined_snoc, record_word_lem, names_put}
use Rattle.format.proofs.Walk.{span_most, walk_span, walk_visits}
use Rattle.rows.specs.declared.Row.TheVariants.{Text, Name}
use Rattle.rows.specs.Table.{out, next, row_count, first_of, times}
use Rattle.rows.specs.Rows.{row_of}
use Rattle.rows.specs.Walk.{Run, go, stop, bind, walk}
use Rattle.rows.proofs.Join.{Ran, RowsRan, times_ran}
use Rattle.lvar.specs.Names.{Tables, State, state, nlocals_of, rlen_of, put_names, with_names, lv_step, lv_kids, never, visits_over, in_word}
use Rattle.lvar.specs.Section.{Filled, filled, counts, end_of, walked, lvar_of}

-- the walk, with so many words for the records and for the names
module _ (f : List ℕ) (base strings m k : ℕ) (fss : List (List File)) where
  abbrev R : List Rec → List (List NameRow) → List ℕ
  R rs nss = table_of record_words m (record_rows start rs nss fss [])

  abbrev N : List (List NameRow) → List ℕ
  N nss = table_of name_words k (joined nss)

  -- the records rs, of which the first have the names nss
  abbrev here : List Rec → List (List NameRow) → ℕ → State
  here rs nss at = state at (length nss) (length (joined nss)) (R rs nss) (N nss)

  abbrev Fits : List (List NameRow) → Type 0
  Fits nss = length (joined nss) ≤ row_count k 1

  abbrev pub WalkRan : List Rec → List (List NameRow) → Read (List NameRow) → Run State Tables → Type 0
  WalkRan rs nss r o =
      Ran r.end (Fits (nss ++ r.rows))
      (λ at. o ≡ go (here rs (nss ++ r.rows) at))
      (λ e. (t : Tables) × (o ≡ stop e t))

  abbrev reading_of : List Rec → ℕ → ℕ → Read (List NameRow)
  reading_of rs pending at = format.walk (record_names f strings) (λ _. false) rs pending at

  abbrev run_of : ℕ → ℕ → State → Run State Tables
  run_of left pending st = walk (lv_step f base strings) lv_kids never left pending st

  -- one visit: r is the record, behind qs
  module _ (qs : List Rec) (r : Rec) (rs : List Rec) (nss : List (List NameRow)) (e : length nss ≡ length qs) (fit : Fits nss) (pending at : ℕ) where
    abbrev all : List Rec
    all = qs ++ r ∷ rs

    abbrev st : State
    st = here all nss at

    abbrev n : ℕ
    n = r.head.nlocals - 1

    abbrev names : Read NameRow
    names = in_turn (name_entry f strings) n at

    abbrev Goal : Type 0
    Goal = WalkRan all nss (reading_of (r ∷ rs) (suc pending) at) (run_of (suc (length rs)) (suc pending) st)

    -- the visits after its own, where its names are read
    abbrev Later : Type 0
    Later =
        (at : ℕ) → Fits (nss ++ names.rows ∷ [])
        → WalkRan all (nss ++ names.rows ∷ []) (reading_of rs (r.head.rlen + pending) at) (run_of (length rs) (r.head.rlen + pending) (here all (nss ++ names.rows ∷ []) at))

    nlocals_is : nlocals_of (R all nss) (length nss) ≡ r.head.nlocals
    nlocals_is = rw e (record_word_lem m start qs r rs nss fss 1 (omega arith))

    rlen_is : rlen_of (R all nss) (length nss) ≡ r.head.rlen
    rlen_is = rw e (record_word_lem m start qs r rs nss fss 3 (omega arith))

    put_is : (ns : List NameRow) (c : ℕ) → length ns ≡ c → put_names (R all nss) (length nss * record_width) (first_of (length (joined nss)) c) c ≡ R all (nss ++ ns ∷ [])
    put_is ns c l =
        let z : 0 + length (joined nss) ≡ length (joined nss) = omega arith in
        rw (← l, e) (rw z at (names_put m start qs r rs nss ns fss e))

    -- both sides, by the record's own names
    run_is : run_of (suc (length rs)) (suc pending) st ≡ bind (lv_step f base strings st) (run_of (length rs) (r.head.rlen + pending))
    unfolding walk
    run_is = rw rlen_is

    module _ (some : eqb r.head.nlocals 0 ≡ false) where
      step_is : lv_step f base strings st ≡ with_names st n (times (row_of f base (Name strings)) n at (length (joined nss)) (N nss))
      unfolding lv_step
      step_is = rw (nlocals_is, some)

      read_is : reading_of (r ∷ rs) (suc pending) at ≡ add names.rows (and_then names.end (reading_of rs (r.head.rlen + pending)))
      unfolding format.walk record_names
      read_is = rw some

      by_names : Later → RowsRan name_words 1 (λ _. refl) (omega arith) k (joined nss) names (times (row_of f base (Name strings)) n at (length (joined nss)) (N nss)) → Goal
      by_names ih (Ran.went a p x d) =
          let ns = names.rows in
          let l : length nss + 1 ≡ length (nss ++ ns ∷ []) = sym (length-append nss (ns ∷ [])) in
          let stepped : lv_step f base strings st ≡ go (here all (nss ++ ns ∷ []) a) = rw (step_is, d, put_is ns n (in_turn_all (name_entry f strings) n at a p), l, joined_snoc nss ns) in
          rw (run_is, read_is, stepped, p) (rw append_assoc at (ih a (rw (joined_snoc nss ns) x)))
      by_names ih (Ran.stop c p x d) = rw (run_is, read_is, step_is, d, p) (Ran.stop c refl (rw (joined_snoc nss names.rows) x) (_, refl))
      by_names ih (Ran.full x d) =
          rw (run_is, read_is, step_is, d)
          (Ran.full (λ y. let g = (and_then names.end (reading_of rs (r.head.rlen + pending))).rows in
          let l : length (joined (nss ++ names.rows ∷ g)) ≡ length (joined nss) + (length names.rows + length (joined g)) =
          rw (joined_append nss (names.rows ∷ g), length-append, length-append) in
          x (rw length-append (omega arith))) (_, refl))

    none_left : eqb r.head.nlocals 0 ≡ true → Goal
    unfolding format.walk record_names lv_step
    none_left z = rw (run_is, nlocals_is, z) (Ran.stop 11 refl (rw (joined_snoc nss [], append-nil) fit) (_, refl))

    visit_ran : Later → (c : Bool) → eqb r.head.nlocals 0 ≡ c → Goal
    visit_ran ih true z = none_left z
    visit_ran ih false z =
        by_names z ih (times_ran name_words 1 (λ _. refl) (omega arith) k (row_of f base (Name strings)) (name_entry f strings) (λ _ _ _. refl) n at (joined nss) fit)

  pub walk_ran : (rs qs : List Rec) (nss : List (List NameRow)) (pending at : ℕ) → length nss ≡ length qs → Fits nss
      → WalkRan (qs ++ rs) nss (reading_of rs pending at) (run_of (length rs) pending (here (qs ++ rs) nss at))
  unfolding walk format.walk
  walk_ran [] qs nss pending at e fit = Ran.went at refl (rw append-nil fit) (rw (append-nil nss))
  walk_ran (r ∷ rs) qs nss zero at e fit = Ran.went at refl (rw append-nil fit) (rw (append-nil nss))
  walk_ran (r ∷ rs) qs nss (suc pending) at e fit =
      visit_ran qs r rs nss e fit pending at
      (λ a y. rw (append_assoc qs (r ∷ []) rs) at
      (walk_ran rs (qs ++ r ∷ []) (nss ++ (in_turn (name_entry f strings) (r.head.nlocals - 1) at).rows ∷ []) (r.head.rlen + pending) a (rw (length-append, length-append, e)) y))
      (eqb r.head.nlocals 0) refl

  -- the rlens that the table says of the first k records behind qs
  table_rlens : (k : ℕ) (qs rs : List Rec) (nss : List (List NameRow)) → k ≤ length rs
      → rows_from (rlen_of (R (qs ++ rs) nss)) (length qs) k ≡ take k (rlens rs)
  unfolding rows_from
  table_rlens zero qs rs nss h = refl
  table_rlens (suc k) qs [] nss h = absurd (omega arith)
  table_rlens (suc k) qs (r ∷ rs) nss h =
      let n : length (qs ++ r ∷ []) ≡ suc (length qs) = rw length-append (omega arith) in
      let here : rlen_of (R (qs ++ r ∷ rs) nss) (length qs) ≡ r.head.rlen = record_word_lem m start qs r rs nss fss 3 (omega arith) in
      let next = rw (append_assoc qs (r ∷ []) rs, n) at (table_rlens k (qs ++ r ∷ []) rs nss (omega arith)) in
      rw (here, next)

  -- the visits over the table, where nothing refuses the walk
  pub table_visits : (rs : List Rec) (at to : ℕ) → let n = reading_of rs 1 at in
      n.end ≡ ok to → visits_over (R rs n.rows) (length n.rows) ≡ visits rs 1
  table_visits rs at to e =
      let ns = (reading_of rs 1 at).rows in
      let n = walk_span (record_names f strings) rs 1 at to e in
      let few : length ns ≤ length rs = omega (arith, n, span_most rs 1) in
      rw (table_rlens (length ns) [] rs ns few) (omega (arith, walk_visits (record_names f strings) rs 1 at to e))

-- the section: m has the sizes of the tables
module _ (m : Nine) (f : List ℕ) (base : ℕ) (rs : List Rec) (fss : List (List File)) where
  abbrev O : Filled
  O = lvar_of f base (length rs) (table_of record_words m.records (record_rows start rs [] fss [])) (table_of text_words m.strings []) (table_of name_words m.names [])

  abbrev P : Part Lvar
  P = lvar_section f base rs

  -- the tables have rows for all strings and names
  abbrev pub Room : Lvar → Type 0
  Room l = (length l.strings ≤ row_count m.strings 2) × (length (joined l.names) ≤ row_count m.names 1)

  abbrev pub SectionRan : Type 0
  SectionRan =
      Ran P.end (Room P.it)
      (λ size.
      O
      ≡ filled (counts size (length P.it.strings) (length (joined P.it.names)) (in_word (visits rs 1)))
      (table_of record_words m.records (record_rows start rs P.it.names fss []))
      (table_of text_words m.strings P.it.strings)
      (table_of name_words m.names (joined P.it.names)))
      (λ k. O.ans ≡ refused k)

  section_short : has f 0 12 ≡ false → SectionRan
  unfolding lvar_of lvar_section
  section_short h = rw h (Ran.stop 7 refl (omega arith, omega arith) refl)

  module _ (there : has f 0 12 ≡ true) where
    abbrev S : Read TextRow
    S = in_turn (plain_text f base) (u32_at f 8) 12

    abbrev W : ℕ → Read (List NameRow)
    W a = format.walk (record_names f (u32_at f 8)) (λ _. false) rs 1 a

    abbrev tested : ℕ → Answer ℕ
    tested size = cond (eqb size 0) (refused 8) (cond (leb size (length f)) (ok size) (refused 7))

    abbrev run : ℕ → Run State Tables
    run a = walk (lv_step f base (u32_at f 8)) lv_kids never (length rs) 1 (here f base (u32_at f 8) m.records m.names fss rs [] a)

    -- both sides, once the strings are read and their rows are there
    module _ (a : ℕ) (p : S.end ≡ ok a) (x : length S.rows ≤ row_count m.strings 2)
        (d : times (row_of f base Text) (u32_at f 8) 12 0 (table_of text_words m.strings []) ≡ out (next a (length S.rows)) (table_of text_words m.strings S.rows)) where
      part_is : P ≡ part (record { strings = S.rows; names = (W a).rows }) (bytes.bind (W a).end (λ _. tested (u32_at f 4)))
      unfolding lvar_section
      part_is = rw (there, p)

      section_is : O ≡ walked f (length S.rows) (table_of text_words m.strings S.rows) (run a)
      unfolding lvar_of
      section_is = let z : length rs - 0 ≡ length rs = omega arith in rw (there, d, z)

      by_end : (b : ℕ) → (W a).end ≡ ok b → length (joined (W a).rows) ≤ row_count m.names 1 → run a ≡ go (here f base (u32_at f 8) m.records m.names fss rs (W a).rows b)
          → (c e : Bool) → eqb (u32_at f 4) 0 ≡ c → leb (u32_at f 4) (length f) ≡ e → SectionRan
      unfolding end_of
      by_end b q y g true e z l = rw (section_is, part_is, q, g, z) (Ran.stop 8 refl (x, y) refl)
      by_end b q y g false true z l =
          rw (section_is, part_is, q, g, z, l) (Ran.went (u32_at f 4) refl (x, y) (rw (table_visits f base (u32_at f 8) m.records m.names fss rs a b q)))
      by_end b q y g false false z l = rw (section_is, part_is, q, g, z, l) (Ran.stop 7 refl (x, y) refl)

      by_walk : WalkRan f base (u32_at f 8) m.records m.names fss rs [] (W a) (run a) → SectionRan
      by_walk (Ran.went b q y g) = by_end b q y g (eqb (u32_at f 4) 0) (leb (u32_at f 4) (length f)) refl refl
      by_walk (Ran.stop k q y (t, g)) = rw (section_is, part_is, q, g) (Ran.stop k refl (x, y) refl)
      by_walk (Ran.full y (t, g)) = rw (section_is, part_is, g) (Ran.full (λ r. y r.1) refl)

    by_strings : RowsRan text_words 2 (λ _. refl) (omega arith) m.strings [] S (times (row_of f base Text) (u32_at f 8) 12 0 (table_of text_words m.strings [])) → SectionRan
    unfolding lvar_of lvar_section
    by_strings (Ran.went a p x d) = by_walk a p x d (walk_ran f base (u32_at f 8) m.records m.names fss rs [] [] 1 a refl (omega arith))
    by_strings (Ran.stop k p x d) = rw (there, p, d) (Ran.stop k refl (x, omega arith) refl)
    by_strings (Ran.full x d) = rw (there, d) (Ran.full (λ r. x r.0) refl)

    strings_ran : SectionRan
    strings_ran = by_strings (times_ran text_words 2 (λ _. refl) (omega arith) m.strings (row_of f base Text) (plain_text f base) (λ _ _ _. refl) (u32_at f 8) 12 [] (omega arith))

  by_bytes : (c : Bool) → has f 0 12 ≡ c → SectionRan
  by_bytes true h = strings_ran h
  by_bytes false h = section_short h

  -- the section goes on with its size where all fits, with the rows of the reading; else it stops by the reading's number, or by 14
  pub lvar_ran : SectionRan
  lvar_ran = by_bytes (has f 0 12) refl
