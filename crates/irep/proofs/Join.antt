-- The section over four zeroed tables goes as the reading that knows no table: where all rows fit, it ends as the reading does, and the tables
-- hold the rows read and then zeros; else it is refused by 14.
-- Assumes nothing.
use Prim.Native.Nat.{ℕ, zero, suc, ◌+◌, ◌-◌, ◌≤◌}
use native.Mathlib.Nat.{add-sub_cancel_left}
use native.Mathlib.Omega.{arith}
use mathlib.Core.Path.{◌≡◌, refl}
use mathlib.Core.Bool.{Bool, true, false, cond}
use mathlib.Core.List.{List, [], ◌∷◌, ◌++◌, append_assoc, append-nil}
use lib.Dec.{leb, eqb}
use lib.ListN.{length, length-append}
use borrow.Author.Tests.{leb-true, leb-false, eq-eqb, ne_eqb}
use Rattle.format.specs.Bytes.{ok, refused, bind, on_answer, has, u32_at}
use Rattle.format.specs.Reading.{Read, reading, Part, part, and_then, in_turn}
use Rattle.format.specs.Rows.{RecordRow, HandlerRow, PoolRow, TextRow, record_width, record_words, handler_words, pool_words, text_words, table_of}
use Rattle.format.specs.Irep.{handler, pool_entry, symbol_text, counted, head_at, Body, body, Rec, body_at, record_at, records_from, irep_section}
use Rattle.format.specs.Tree.{alone}
use Rattle.format.specs.Load.{Before, start, record_row, record_rows, gathered, Nine}
use Rattle.rows.specs.declared.Row.TheVariants.{Handler, Pool, Symbol}
use Rattle.rows.specs.Table.{out, next, row_count, times}
use Rattle.rows.specs.Rows.{row_of, counted_of}
use Rattle.rows.proofs.Join.{Ran, RowsRan, length_table, put_there, times_ran, counted_ran}
use Rattle.irep.specs.declared.Limits.{Limits}
use Rattle.irep.specs.declared.Used.{Used}
use Rattle.irep.specs.declared.Reached.{Reached}
use Rattle.irep.specs.declared.Section.{Section}
use Rattle.irep.specs.Record.{unused, reached, section, Lent, lent, Lists, lists, placed, Run, run, row_is, body_of, finish_of, record_of, records_of, irep_of}

-- the rows that the four tables hold
pub record Held : Type 0 where
  pub records : List RecordRow
  pub handlers : List HandlerRow
  pub pool : List PoolRow
  pub symbols : List TextRow

abbrev pub used_of : Held → Used
used_of b = record { records = length b.records; handlers = length b.handlers; pool = length b.pool; symbols = length b.symbols }

abbrev before_of : Held → Before
before_of b = record { handlers = length b.handlers; pool = length b.pool; symbols = length b.symbols; names = 0; files = 0; lines = 0 }

-- the limit and the tables have room for them
pub record Room (limit : ℕ) (m : Nine) (b : Held) : Type 0 where
  pub within : length b.records ≤ limit
  pub records : length b.records ≤ row_count m.records record_width
  pub handlers : length b.handlers ≤ row_count m.handlers 4
  pub pool : length b.pool ≤ row_count m.pool 3
  pub symbols : length b.symbols ≤ row_count m.symbols 2

-- tables of such sizes that hold them, and then zeros
abbrev pub lent_of : Nine → Held → Lent
lent_of m b =
    lent (table_of record_words m.records b.records) (table_of handler_words m.handlers b.handlers) (table_of pool_words m.pool b.pool) (table_of text_words m.symbols b.symbols)

-- a record's lists, its row, and many records behind those
abbrev grow : Held → Body → Held
grow b x = record { records = b.records; handlers = b.handlers ++ x.handlers; pool = b.pool ++ x.pool; symbols = b.symbols ++ x.symbols }

abbrev row_in : Held → Rec → RecordRow
row_in b r = record_row (before_of b) r [] [] alone

abbrev put : Held → Rec → Held
put b r =
    record {
      records = b.records ++ row_in b r ∷ [];
      handlers = b.handlers ++ r.body.handlers;
      pool = b.pool ++ r.body.pool;
      symbols = b.symbols ++ r.body.symbols;
    }

abbrev put_all : Held → List Rec → Held
put_all b [] = b
put_all b (r ∷ rs) = put_all (put b r) rs

module _ (limit : Limits) (m : Nine) where
  abbrev BodyRan : Held → Part Body → Lists → Type 0
  BodyRan b p o =
      Ran p.end (Room limit.most m (grow b p.it))
      (λ at. o ≡ lists (ok (used_of (grow b p.it))) (lent_of m (grow b p.it)).handlers (lent_of m (grow b p.it)).pool (lent_of m (grow b p.it)).symbols)
      (λ k. o.ans ≡ refused k)

  module _ (f : List ℕ) (base clen at : ℕ) (b : Held) (rm : Room limit.most m b) where
    abbrev O : Lists
    O = body_of f base clen at (lent_of m b).handlers (lent_of m b).pool (lent_of m b).symbols (used_of b)

    abbrev P : Part Body
    P = body_at f base clen at

    abbrev hr : Read HandlerRow
    hr = in_turn (handler f) clen at

    abbrev pr : ℕ → Read PoolRow
    pr a = counted f (pool_entry f base) a

    abbrev sr : ℕ → Read TextRow
    sr a = counted f (symbol_text f base) a

    after_pool : (a c : ℕ) → hr.end ≡ ok a → (pr a).end ≡ ok c
        → length (b.handlers ++ hr.rows) ≤ row_count m.handlers 4 → length (b.pool ++ (pr a).rows) ≤ row_count m.pool 3
        → times (row_of f base Handler) clen at (length b.handlers) (lent_of m b).handlers ≡ out (next a (length (b.handlers ++ hr.rows)))
        (table_of handler_words m.handlers (b.handlers ++ hr.rows))
        → counted_of f base Pool a (length b.pool) (lent_of m b).pool ≡ out (next c (length (b.pool ++ (pr a).rows))) (table_of pool_words m.pool (b.pool ++ (pr a).rows))
        → RowsRan text_words 2 (λ _. refl) (omega arith) m.symbols b.symbols (sr c) (counted_of f base Symbol c (length b.symbols) (lent_of m b).symbols)
        → BodyRan b P O
    unfolding body_of body_at
    after_pool a c p q x y d e (Ran.went z s t g) = rw (p, q, d, e, g) (Ran.went z s (record { within = rm.within; records = rm.records; handlers = x; pool = y; symbols = t }) refl)
    after_pool a c p q x y d e (Ran.stop k s t g) = rw (p, q, d, e, g) (Ran.stop k s (record { within = rm.within; records = rm.records; handlers = x; pool = y; symbols = t }) refl)
    after_pool a c p q x y d e (Ran.full t g) = rw (p, q, d, e, g) (Ran.full (λ r. t r.symbols) refl)

    after_handlers : (a : ℕ) → hr.end ≡ ok a → length (b.handlers ++ hr.rows) ≤ row_count m.handlers 4
        → times (row_of f base Handler) clen at (length b.handlers) (lent_of m b).handlers ≡ out (next a (length (b.handlers ++ hr.rows)))
        (table_of handler_words m.handlers (b.handlers ++ hr.rows))
        → RowsRan pool_words 3 (λ _. refl) (omega arith) m.pool b.pool (pr a) (counted_of f base Pool a (length b.pool) (lent_of m b).pool)
        → BodyRan b P O
    unfolding body_of body_at counted_of
    after_handlers a p x d (Ran.went c q y e) =
        after_pool a c p q x y d e
        (counted_ran text_words 2 (λ _. refl) (omega arith) m.symbols (row_of f base Symbol) (symbol_text f base) (λ _ _ _. refl) f c b.symbols rm.symbols)
    after_handlers a p x d (Ran.stop k q y e) =
        rw (p, q, d, e) (Ran.stop k refl (record { within = rm.within; records = rm.records; handlers = x; pool = y; symbols = rw append-nil rm.symbols }) refl)
    after_handlers a p x d (Ran.full y e) = rw (p, d, e) (Ran.full (λ r. y r.pool) refl)

    by_handlers : RowsRan handler_words 4 (λ _. refl) (omega arith) m.handlers b.handlers hr (times (row_of f base Handler) clen at (length b.handlers) (lent_of m b).handlers) → BodyRan b P O
    unfolding body_of body_at counted_of
    by_handlers (Ran.went a p x d) =
        after_handlers a p x d
        (counted_ran pool_words 3 (λ _. refl) (omega arith) m.pool (row_of f base Pool) (pool_entry f base) (λ _ _ _. refl) f a b.pool rm.pool)
    by_handlers (Ran.stop k p x d) =
        rw (p, d) (Ran.stop k refl (record { within = rm.within; records = rm.records; handlers = x; pool = rw append-nil rm.pool; symbols = rw append-nil rm.symbols }) refl)
    by_handlers (Ran.full x d) = rw d (Ran.full (λ r. x r.handlers) refl)

    body_ran : BodyRan b P O
    body_ran = by_handlers (times_ran handler_words 4 (λ _. refl) (omega arith) m.handlers (row_of f base Handler) (handler f) (λ _ _ _. refl) clen at b.handlers rm.handlers)

  -- a record's row says its lists
  row_words : (f : List ℕ) (at place : ℕ) (b : Held) (x : Body)
      → record_words (row_is (head_at f at) place (used_of b) (used_of (grow b x))) ≡ record_words (row_in b (record { head = head_at f at; place = place; body = x }))
  row_words f at place b x = rw (length-append, length-append, length-append, add-sub_cancel_left, add-sub_cancel_left, add-sub_cancel_left)

  abbrev RecordRan : Held → Part Rec → Run Reached → Type 0
  RecordRan b p o =
      Ran p.end (Room limit.most m (put b p.it))
      (λ at. o ≡ run (ok (reached at (used_of (put b p.it)))) (lent_of m (put b p.it)))
      (λ k. o.ans ≡ refused k)

  module _ (f : List ℕ) (base at : ℕ) (b : Held) (rm : Room limit.most m b) (there : has f at 16 ≡ true) where
    abbrev Q : Part Rec
    Q = record_at f base (limit.allowed - length b.records) at

    abbrev OO : Run Reached
    OO = record_of f base limit at (lent_of m b) (used_of b)

    abbrev row_more : (r : Rec) → length (b.records ++ row_in b r ∷ []) ≡ length b.records + 1
    row_more r = length-append b.records (row_in b r ∷ [])

    abbrev X : Part Body
    X = body_at f base (head_at f at).clen (at + 16 + (head_at f at).ilen)

    abbrev records_length : length (lent_of m b).records ≡ m.records
    records_length = length_table record_words record_width (λ _. refl) (omega arith) m.records b.records rm.records

    -- whether records are still allowed
    none_left : leb limit.allowed (length b.records) ≡ true → eqb (limit.allowed - length b.records) 0 ≡ true
    none_left c = eq-eqb (limit.allowed - length b.records) 0 (omega (arith, leb-true limit.allowed (length b.records) c))

    some_left : leb limit.allowed (length b.records) ≡ false → eqb (limit.allowed - length b.records) 0 ≡ false
    some_left c = ne_eqb (limit.allowed - length b.records) 0 (λ z. omega (arith, z, leb-false limit.allowed (length b.records) c))

    -- its row is there, so far as the records go
    module _ (low : leb limit.most (length b.records) ≡ false) (free : leb (row_count m.records record_width) (length b.records) ≡ false) where
      limit' : (r : Rec) → length (b.records ++ row_in b r ∷ []) ≤ limit.most
      limit' r = omega (arith, row_more r, leb-false limit.most (length b.records) low)

      records' : (r : Rec) → length (b.records ++ row_in b r ∷ []) ≤ row_count m.records record_width
      records' r = omega (arith, row_more r, leb-false (row_count m.records record_width) (length b.records) free)

      abbrev the_rec : Body → Rec
      the_rec x = record { head = head_at f at; place = base + (at + 16); body = x }

      finish_zero : (x : Body) → eqb (head_at f at).size 0 ≡ true
          → finish_of (head_at f at) base at (lent_of m b).records (used_of b) (used_of (grow b x)) ≡ placed (refused 8) (lent_of m b).records
      unfolding finish_of
      finish_zero x z = rw z

      finish_there : (x : Body) → eqb (head_at f at).size 0 ≡ false
          → finish_of (head_at f at) base at (lent_of m b).records (used_of b) (used_of (grow b x)) ≡ placed
          (ok (reached (at + (head_at f at).size) (used_of (put b (the_rec x))))) (lent_of m (put b (the_rec x))).records
      unfolding finish_of
      finish_there x z =
          let next = at + (head_at f at).size in
          let w = row_words f at (base + (at + 16)) b x in
          let there = leb-false (row_count m.records record_width) (length b.records) free in
          let q = put_there record_words record_width (λ _. refl) (omega arith) m.records b.records (row_in b (the_rec x)) next there in
          rw (z, w, q)

      module _ (more : leb limit.allowed (length b.records) ≡ false) (code : has f (at + 16) (head_at f at).ilen ≡ true) where
        -- both sides, once the tests are passed
        abbrev Y : Lists
        Y = body_of f base (head_at f at).clen (at + 16 + (head_at f at).ilen) (lent_of m b).handlers (lent_of m b).pool (lent_of m b).symbols (used_of b)

        abbrev through : Lists → Run Reached
        through o =
            on_answer o.ans
            (λ v. let p = finish_of (head_at f at) base at (lent_of m b).records (used_of b) v in run p.ans (lent p.records o.handlers o.pool o.symbols))
            (λ k. run (refused k) (lent (lent_of m b).records o.handlers o.pool o.symbols))

        run_is : OO ≡ through Y
        unfolding record_of
        run_is = rw (there, low, records_length, free, more, code)

        read_is : Q ≡ part (the_rec X.it) (bind X.end (λ _. cond (eqb (head_at f at).size 0) (refused 8) (ok (at + (head_at f at).size))))
        unfolding record_at
        read_is = rw (some_left more, code)

        more_room : Room limit.most m (grow b X.it) → Room limit.most m (put b (the_rec X.it))
        more_room r = record { within = limit' (the_rec X.it); records = records' (the_rec X.it); handlers = r.handlers; pool = r.pool; symbols = r.symbols }

        by_size : (a : ℕ) → X.end ≡ ok a → Room limit.most m (grow b X.it)
            → Y ≡ lists (ok (used_of (grow b X.it))) (lent_of m (grow b X.it)).handlers (lent_of m (grow b X.it)).pool (lent_of m (grow b X.it)).symbols
            → (c : Bool) → eqb (head_at f at).size 0 ≡ c → RecordRan b Q OO
        by_size a e r d true z = rw (run_is, read_is, d, finish_zero X.it z, e, z) (Ran.stop 8 refl (more_room r) refl)
        by_size a e r d false z = rw (run_is, read_is, d, finish_there X.it z, e, z) (Ran.went _ refl (more_room r) refl)

        by_body : BodyRan b X Y → RecordRan b Q OO
        by_body (Ran.went a e r d) = by_size a e r d (eqb (head_at f at).size 0) refl
        by_body (Ran.stop k e r d) = rw (run_is, read_is, d, e) (Ran.stop k refl (more_room r) refl)
        by_body (Ran.full r d) =
            rw (run_is, read_is, d)
            (Ran.full (λ q. r (record { within = rm.within; records = rm.records; handlers = q.handlers; pool = q.pool; symbols = q.symbols })) refl)

      -- a record without its lists has a row
      bare_room : Room limit.most m (put b (the_rec (body [] [] [])))
      bare_room =
          record {
            within = limit' (the_rec (body [] [] []));
            records = records' (the_rec (body [] [] []));
            handlers = rw append-nil rm.handlers;
            pool = rw append-nil rm.pool;
            symbols = rw append-nil rm.symbols;
          }

      by_code : leb limit.allowed (length b.records) ≡ false → (c : Bool) → has f (at + 16) (head_at f at).ilen ≡ c → RecordRan b Q OO
      unfolding record_of record_at
      by_code more true c = by_body more c (body_ran f base (head_at f at).clen (at + 16 + (head_at f at).ilen) b rm)
      by_code more false c = rw (there, low, records_length, free, more, some_left more, c) (Ran.stop 7 refl bare_room refl)

      by_allowed : (c : Bool) → leb limit.allowed (length b.records) ≡ c → RecordRan b Q OO
      unfolding record_of record_at
      by_allowed true c = rw (there, low, records_length, free, c, none_left c) (Ran.stop 29 refl bare_room refl)
      by_allowed false c = by_code c (has f (at + 16) (head_at f at).ilen) refl

    by_rows : leb limit.most (length b.records) ≡ false → (c : Bool) → leb (row_count m.records record_width) (length b.records) ≡ c → RecordRan b Q OO
    unfolding record_of
    by_rows low true c =
        rw (there, low, records_length, c)
        (Ran.full (λ r. omega (arith, row_more Q.it, leb-true (row_count m.records record_width) (length b.records) c, r.records)) refl)
    by_rows low false c = by_allowed low c (leb limit.allowed (length b.records)) refl

    by_limit : (c : Bool) → leb limit.most (length b.records) ≡ c → RecordRan b Q OO
    unfolding record_of
    by_limit true c = rw (there, c) (Ran.full (λ r. omega (arith, row_more Q.it, leb-true limit.most (length b.records) c, r.within)) refl)
    by_limit false c = by_rows c (leb (row_count m.records record_width) (length b.records)) refl

    record_ran : RecordRan b Q OO
    record_ran = by_limit (leb limit.most (length b.records)) refl

  abbrev RecordsRan : Held → Read Rec → Run Reached → Type 0
  RecordsRan b r o =
      Ran r.end (Room limit.most m (put_all b r.rows))
      (λ at. o ≡ run (ok (reached at (used_of (put_all b r.rows)))) (lent_of m (put_all b r.rows)))
      (λ k. o.ans ≡ refused k)

  -- room for more is room for less
  room_back : (b : Held) (r : Rec) → Room limit.most m (put b r) → Room limit.most m b
  room_back b r x =
      record {
        within = omega (arith, length-append b.records (row_in b r ∷ []), x.within);
        records = omega (arith, length-append b.records (row_in b r ∷ []), x.records);
        handlers = omega (arith, length-append b.handlers r.body.handlers, x.handlers);
        pool = omega (arith, length-append b.pool r.body.pool, x.pool);
        symbols = omega (arith, length-append b.symbols r.body.symbols, x.symbols);
      }

  room_less : (rs : List Rec) (b : Held) → Room limit.most m (put_all b rs) → Room limit.most m b
  room_less [] b x = x
  room_less (r ∷ rs) b x = room_back b r (room_less rs (put b r) x)

  module _ (f : List ℕ) (base size : ℕ) where
    abbrev Turns : ℕ → ℕ → Held → Type 0
    Turns n at b = RecordsRan b (records_from f base size n (limit.allowed - length b.records) at) (records_of f base size limit n at (lent_of m b) (used_of b))

    -- one record more is one fewer still allowed
    one_fewer : (b : Held) (r : Rec) → limit.allowed - length b.records - 1 ≡ limit.allowed - length (put b r).records
    one_fewer b r = omega (arith, length-append b.records (row_in b r ∷ []))

    module _ (n at : ℕ) (b : Held) (rm : Room limit.most m b) (ih : (at : ℕ) (b : Held) → Room limit.most m b → Turns n at b) where
      abbrev R : Part Rec
      R = record_at f base (limit.allowed - length b.records) at

      by_record_lem : leb size at ≡ false → has f at 16 ≡ true → RecordRan b R (record_of f base limit at (lent_of m b) (used_of b)) → Turns (suc n) at b
      unfolding records_from records_of
      by_record_lem x y (Ran.went next e r d) = rw (x, y, d, e, one_fewer b R.it) (ih next (put b R.it) r)
      by_record_lem x y (Ran.stop e q r d) = rw (x, y, d, q) (Ran.stop e refl r refl)
      by_record_lem x y (Ran.full r d) =
          rw (x, y, d) (Ran.full (λ z. r (room_less (and_then R.end (records_from f base size n (limit.allowed - length b.records - 1))).rows (put b R.it) z)) refl)

      by_there : leb size at ≡ false → (c : Bool) → has f at 16 ≡ c → Turns (suc n) at b
      unfolding records_from records_of record_of
      by_there x true y = by_record_lem x y (record_ran f base at b rm y)
      by_there x false y = rw (x, y) (Ran.stop 7 refl rm refl)

      by_end : (c : Bool) → leb size at ≡ c → Turns (suc n) at b
      unfolding records_from records_of
      by_end true x = rw x (Ran.went at refl rm refl)
      by_end false x = by_there x (has f at 16) refl

    records_ran : (n at : ℕ) (b : Held) → Room limit.most m b → Turns n at b
    unfolding records_from records_of
    records_ran zero at b rm = Ran.went at refl rm refl
    records_ran (suc n) at b rm = by_end n at b rm (records_ran n) (leb size at) refl

-- records put behind those, as lists
abbrev spread : Held → List Rec → Held
spread b rs =
    record {
      records = b.records ++ record_rows (before_of b) rs [] [] [];
      handlers = b.handlers ++ gathered (λ r. r.body.handlers) rs;
      pool = b.pool ++ gathered (λ r. r.body.pool) rs;
      symbols = b.symbols ++ gathered (λ r. r.body.symbols) rs;
    }

put_all_lem : (rs : List Rec) (b : Held) → put_all b rs ≡ spread b rs
put_all_lem [] b = rw (append-nil, append-nil, append-nil, append-nil)
put_all_lem (r ∷ rs) b = rw (put_all_lem rs (put b r), length-append, length-append, length-append, append_assoc, append_assoc, append_assoc, append_assoc)

-- the rows of records alone
abbrev pub held : List Rec → Held
held rs =
    record {
      records = record_rows start rs [] [] [];
      handlers = gathered (λ r. r.body.handlers) rs;
      pool = gathered (λ r. r.body.pool) rs;
      symbols = gathered (λ r. r.body.symbols) rs;
    }

module _ (limit : Limits) (m : Nine) where
  -- how a run of the section goes with a reading of it
  abbrev pub IrepRan : Read Rec → Run Section → Type 0
  IrepRan r o =
      Ran r.end (Room limit.most m (held r.rows))
      (λ size. o ≡ run (ok (section size (used_of (held r.rows)))) (lent_of m (held r.rows)))
      (λ k. o.ans ≡ refused k)

  empty_room : Room limit.most m (held [])
  empty_room = record { within = omega arith; records = omega arith; handlers = omega arith; pool = omega arith; symbols = omega arith }

  module _ (f : List ℕ) (base : ℕ) where
    abbrev size : ℕ
    size = u32_at f 4

    abbrev r : Read Rec
    r = records_from f base size (length f) limit.allowed 12

    abbrev o : Run Reached
    o = records_of f base size limit (length f) 12 (lent_of m (held [])) unused

    abbrev Goal : Type 0
    Goal = IrepRan (irep_section f base limit.allowed) (irep_of f base limit (lent_of m (held [])))

    module _ (there : has f 0 12 ≡ true) (inside : leb size (length f) ≡ true) where
      section_run_lem : irep_of f base limit (lent_of m (held []))
          ≡ on_answer o.ans (λ x. cond (eqb size 0) (run (refused 8) o.tabs) (run (ok (section size x.used)) o.tabs)) (λ k. run (refused k) o.tabs)
      unfolding irep_of
      section_run_lem = rw (there, inside)

      section_read : irep_section f base limit.allowed ≡ reading r.rows (bind r.end (λ _. cond (eqb size 0) (refused 8) (ok size)))
      unfolding irep_section
      section_read = rw (there, inside)

      by_zero : (at : ℕ) → r.end ≡ ok at → Room limit.most m (held r.rows) → o ≡ run (ok (reached at (used_of (held r.rows)))) (lent_of m (held r.rows)) → (c : Bool) → eqb size 0 ≡ c → Goal
      by_zero at e x d true z = rw (section_run_lem, section_read, d, e, z) (Ran.stop 8 refl x refl)
      by_zero at e x d false z = rw (section_run_lem, section_read, d, e, z) (Ran.went size refl x refl)

      by_run : RecordsRan limit m (held []) r o → Goal
      by_run (Ran.went at e x d) = by_zero at e (rw (put_all_lem r.rows (held [])) at x) (rw (put_all_lem r.rows (held [])) at d) (eqb size 0) refl
      by_run (Ran.stop k e x d) = let x' = rw (put_all_lem r.rows (held [])) at x in rw (section_run_lem, section_read, d, e) (Ran.stop k refl x' refl)
      by_run (Ran.full x d) = rw (section_run_lem, section_read, d) (Ran.full (λ z. x (rw (put_all_lem r.rows (held [])) z)) refl)

    by_stated : has f 0 12 ≡ true → (c : Bool) → leb size (length f) ≡ c → Goal
    unfolding irep_of irep_section
    by_stated t true e = let z : limit.allowed - 0 ≡ limit.allowed = omega arith in by_run t e (rw z at (records_ran limit m f base size (length f) 12 (held []) empty_room))
    by_stated t false e = rw (t, e) (Ran.stop 7 refl empty_room refl)

    by_header : (c : Bool) → has f 0 12 ≡ c → Goal
    unfolding irep_of irep_section
    by_header true t = by_stated t (leb size (length f)) refl
    by_header false t = rw t (Ran.stop 7 refl empty_room refl)

    -- the join: answer and all four tables
    pub irep_ran : IrepRan (irep_section f base limit.allowed) (irep_of f base limit (lent_of m (held [])))
    irep_ran = by_header (has f 0 12) refl
