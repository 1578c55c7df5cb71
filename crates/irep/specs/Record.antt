-- The records of an IREP section as steps over a place, the rows used and four lent tables.
-- Assumes nothing.
use Rattle.std.specs.Prelude.{ℕ, zero, suc, ◌+◌, ◌-◌, cond, List, [], ◌∷◌, leb, eqb, length}
use Rattle.format.specs.Bytes.{Answer, ok, refused, on_answer, has, u32_at}
use Rattle.format.specs.Rows.{RecordRow, range, record_width, record_words}
use Rattle.format.specs.Tree.{alone}
use Rattle.format.specs.Irep.{Head, head_at}
use Rattle.rows.specs.declared.Row.TheVariants.{Handler, Pool, Symbol}
use Rattle.rows.specs.Table.{row_count, first_of, put_of, times}
use Rattle.rows.specs.Rows.{row_of, counted_of}
use Rattle.irep.specs.declared.Limits.{Limits}
use Rattle.irep.specs.declared.Used.{Used}
use Rattle.irep.specs.declared.Header.{Header}
use Rattle.irep.specs.declared.Reached.{Reached}
use Rattle.irep.specs.declared.Section.{Section}

-- no row is used
abbrev pub unused : Used
unused = record { records = 0; handlers = 0; pool = 0; symbols = 0 }

abbrev pub reached : ℕ → Used → Reached
reached at u = record { at = at; used = u }

abbrev pub section : ℕ → Used → Section
section size u = record { size = size; used = u }

-- a header's fields as the format has them
abbrev pub head_of : Header → Head
head_of h = record { size = h.size; nlocals = h.nlocals; nregs = h.nregs; rlen = h.rlen; clen = h.clen; ilen = h.ilen }

-- the first row and the number of the rows that are used after, and were not before
abbrev pub range_of : ℕ → ℕ → List ℕ
range_of before after = first_of before (after - before) ∷ (after - before) ∷ []

-- the words of the four tables
pub record Lent : Type 0 where
  pub records : List ℕ
  pub handlers : List ℕ
  pub pool : List ℕ
  pub symbols : List ℕ

abbrev pub lent : List ℕ → List ℕ → List ℕ → List ℕ → Lent
lent r h p s = record { records = r; handlers = h; pool = p; symbols = s }

-- an answer with the tables as they are then: of a record's lists, of its row, and of all four
pub record Lists : Type 0 where
  pub ans : Answer Used
  pub handlers : List ℕ
  pub pool : List ℕ
  pub symbols : List ℕ

abbrev pub lists : Answer Used → List ℕ → List ℕ → List ℕ → Lists
lists a h p s = record { ans = a; handlers = h; pool = p; symbols = s }

pub record Placed : Type 0 where
  pub ans : Answer Reached
  pub records : List ℕ

abbrev pub placed : Answer Reached → List ℕ → Placed
placed a r = record { ans = a; records = r }

pub record Run (A : Type 0) : Type 0 where
  pub ans : Answer A
  pub tabs : Lent

abbrev pub run : {A : Type 0} → Answer A → Lent → Run A
run a t = record { ans = a; tabs = t }

-- A record's row; u and v are the rows used before and after its lists. Names, debug files, lines, depth and parent are still to come.
abbrev pub row_is : Head → ℕ → Used → Used → RecordRow
row_is h place u v =
    record {
      size = h.size;
      nlocals = h.nlocals;
      nregs = h.nregs;
      rlen = h.rlen;
      clen = h.clen;
      ilen = h.ilen;
      place = place;
      handlers = range u.handlers (v.handlers - u.handlers);
      pool = range u.pool (v.pool - u.pool);
      symbols = range u.symbols (v.symbols - u.symbols);
      names = range 0 0;
      files = range 0 0;
      lines = range 0 0;
      depth = alone.depth;
      parent = alone.parent;
    }

-- clen handlers, the pool, the symbols
unfoldable pub body_of : List ℕ → ℕ → ℕ → ℕ → List ℕ → List ℕ → List ℕ → Used → Lists
body_of f base clen at handlers pool symbols u =
    let h = times (row_of f base Handler) clen at u.handlers handlers in
    on_answer h.ans
    (λ a.
    let p = counted_of f base Pool a.at u.pool pool in
    on_answer p.ans
    (λ b.
    let s = counted_of f base Symbol b.at u.symbols symbols in
    on_answer s.ans
    (λ c. lists (ok (record { records = u.records; handlers = a.used; pool = b.used; symbols = c.used })) h.tab p.tab s.tab)
    (λ k. lists (refused k) h.tab p.tab s.tab))
    (λ k. lists (refused k) h.tab p.tab symbols))
    (λ k. lists (refused k) h.tab pool symbols)

-- the record's row, and on at the next record; 8 where the size is 0
unfoldable pub finish_of : Head → ℕ → ℕ → List ℕ → Used → Used → Placed
finish_of h base at records u v =
    cond (eqb h.size 0) (placed (refused 8) records)
    (let p = put_of (at + h.size) u.records records (record_words (row_is h (base + (at + 16)) u v)) in
    on_answer p.ans
    (λ r. placed (ok (reached r.at (record { records = r.used; handlers = v.handlers; pool = v.pool; symbols = v.symbols }))) p.tab)
    (λ k. placed (refused k) p.tab))

-- a record: its 16 bytes, its row needed, the allowance, its instructions, its lists, its row
unfoldable pub record_of : List ℕ → ℕ → Limits → ℕ → Lent → Used → Run Reached
record_of f base limit at t u =
    cond (has f at 16)
    (cond (leb limit.most u.records) (run (refused 14) t)
    (cond (leb (row_count (length t.records) record_width) u.records) (run (refused 14) t)
    (cond (leb limit.allowed u.records) (run (refused 29) t)
    (cond (has f (at + 16) (head_at f at).ilen)
    (let b = body_of f base (head_at f at).clen (at + 16 + (head_at f at).ilen) t.handlers t.pool t.symbols u in
    on_answer b.ans
    (λ v. let p = finish_of (head_at f at) base at t.records u v in run p.ans (lent p.records b.handlers b.pool b.symbols))
    (λ k. run (refused k) (lent t.records b.handlers b.pool b.symbols)))
    (run (refused 7) t)))))
    (run (refused 7) t)

-- records while the place is below the section's size
unfoldable pub records_of : List ℕ → ℕ → ℕ → Limits → ℕ → ℕ → Lent → Used → Run Reached
records_of f base size limit zero at t u = run (ok (reached at u)) t
records_of f base size limit (suc n) at t u =
    cond (leb size at) (run (ok (reached at u)) t)
    (let r = record_of f base limit at t u in
    on_answer r.ans (λ x. records_of f base size limit n x.at r.tabs x.used) (λ k. run (refused k) r.tabs))

-- the section: its 12 bytes, its size against the file, its records, then 8 where its size is 0
unfoldable pub irep_of : List ℕ → ℕ → Limits → Lent → Run Section
irep_of f base limit t =
    cond (has f 0 12)
    (cond (leb (u32_at f 4) (length f))
    (let r = records_of f base (u32_at f 4) limit (length f) 12 t unused in
    on_answer r.ans
    (λ x. cond (eqb (u32_at f 4) 0) (run (refused 8) r.tabs) (run (ok (section (u32_at f 4) x.used)) r.tabs))
    (λ k. run (refused k) r.tabs))
    (run (refused 7) t))
    (run (refused 7) t)
