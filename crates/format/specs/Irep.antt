-- The IREP section as rows. f is the part of the file from the section's start on, and base is that start: rows hold places in the file.
-- Paper 01, 'Loading'; paper 02, d) and h).
-- Assumes nothing.
use Rattle.std.specs.Prelude.{ℕ, zero, suc, ◌+◌, ◌-◌, cond, List, [], leb, eqb, length}
use Rattle.format.specs.Bytes.{Answer, ok, refused, bind, Step, step, has, reads, byte, no_zero, u16_at, u32_at}
use Rattle.format.specs.Reading.{Read, reading, Part, part, add, and_then, in_turn}
use Rattle.format.specs.Rows.{HandlerRow, PoolRow, TextRow, text_row}

-- "handlers (kind 1, begin 4, end 4, target 4)"
unfoldable pub handler : List ℕ → ℕ → Answer (Step HandlerRow)
handler f at =
    reads f at 13
    (step (record { kind = byte f at; begin = u32_at f (at + 1); end = u32_at f (at + 5); target = u32_at f (at + 9) }) (at + 13))

-- "A string .. is a 2-byte length n, then n + 1 bytes". Paper 01: "whose only zero is the last"; in its place paper 02, d): "Pool strings may
-- have zero bytes inside; the last byte must still be zero." "Text goes without its zero."
unfoldable pub pool_text : List ℕ → ℕ → ℕ → Answer (Step TextRow)
pool_text f base at =
    let n = u16_at f at in
    cond (has f at 2)
    (cond (has f (at + 2) (n + 1))
    (cond (eqb (byte f (at + 2 + n)) 0) (ok (step (text_row (base + (at + 2)) n) (at + 2 + (n + 1)))) (refused 9))
    (refused 7))
    (refused 7)

-- "A .. symbol is a 2-byte length n, then n + 1 bytes whose only zero is the last": the last byte is zero as a string's is, and no other.
-- Paper 02, d): "Symbols, local names and file names keep their rule."
unfoldable pub symbol_text : List ℕ → ℕ → ℕ → Answer (Step TextRow)
symbol_text f base at = bind (pool_text f base at) (λ s. cond (no_zero f s.it.length (at + 2)) (ok s) (refused 9))

-- n bytes
abbrev pub bytes : List ℕ → ℕ → ℕ → ℕ → Answer (Step TextRow)
bytes f base at n = reads f at n (step (text_row (base + at) n) (at + n))

-- "7 big integer (length n in 1 byte, then n + 1 bytes)"
unfoldable pub big_integer : List ℕ → ℕ → ℕ → Answer (Step TextRow)
big_integer f base at = cond (has f at 1) (bytes f base (at + 1) (byte f at + 1)) (refused 7)

-- "Pool kinds: 0 and 2 string, 1 int32, 3 int64 .., 5 float64 .., 7 big integer"; "10: unknown pool kind"
unfoldable pub pool_value : List ℕ → ℕ → ℕ → ℕ → Answer (Step TextRow)
pool_value f base k at =
    cond (eqb k 0) (pool_text f base at)
    (cond (eqb k 2) (pool_text f base at)
    (cond (eqb k 1) (bytes f base at 4)
    (cond (eqb k 3) (bytes f base at 8)
    (cond (eqb k 5) (bytes f base at 8)
    (cond (eqb k 7) (big_integer f base at)
    (refused 10))))))

abbrev pub of_kind : ℕ → Step TextRow → Step PoolRow
of_kind k v = step (record { kind = k; place = v.it.place; length = v.it.length }) v.next

-- an entry: its kind in 1 byte, then its value
unfoldable pub pool_entry : List ℕ → ℕ → ℕ → Answer (Step PoolRow)
pool_entry f base at = cond (has f at 1) (bind (pool_value f base (byte f at) (at + 1)) (λ v. ok (of_kind (byte f at) v))) (refused 7)

-- "pool count 2 and entries, symbol count 2 and symbols"
unfoldable pub counted : {R : Type 0} → List ℕ → (ℕ → Answer (Step R)) → ℕ → Read R
counted f p at = cond (has f at 2) (in_turn p (u16_at f at) (at + 2)) (reading [] (refused 7))

-- "Record: size 4, nlocals 2, nregs 2, rlen 2, clen 2, ilen 4"
pub record Head : Type 0 where
  pub size : ℕ
  pub nlocals : ℕ
  pub nregs : ℕ
  pub rlen : ℕ
  pub clen : ℕ
  pub ilen : ℕ

unfoldable pub head_at : List ℕ → ℕ → Head
head_at f at =
    record {
      size = u32_at f at;
      nlocals = u16_at f (at + 4);
      nregs = u16_at f (at + 6);
      rlen = u16_at f (at + 8);
      clen = u16_at f (at + 10);
      ilen = u32_at f (at + 12);
    }

-- a record's lists, which a refusal may cut short
pub record Body : Type 0 where
  pub handlers : List HandlerRow
  pub pool : List PoolRow
  pub symbols : List TextRow

abbrev pub body : List HandlerRow → List PoolRow → List TextRow → Body
body h p s = record { handlers = h; pool = p; symbols = s }

-- a record that is read: its header, the place of its instructions, and its lists
pub record Rec : Type 0 where
  pub head : Head
  pub place : ℕ
  pub body : Body

-- "clen handlers .., pool count 2 and entries, symbol count 2 and symbols"
unfoldable pub body_at : List ℕ → ℕ → ℕ → ℕ → Part Body
body_at f base clen at =
    let h = in_turn (handler f) clen at in
    let p = and_then h.end (counted f (pool_entry f base)) in
    let s = and_then p.end (counted f (symbol_text f base)) in
    part (body h.rows p.rows s.rows) s.end

-- A record whose 16 bytes are there, with "ilen instruction bytes". "The next record starts at this start plus the stated size, wherever
-- reading ended"; "8: after its content, .. a record has size 0". So many records are still allowed, this one among them; paper 02, h): "29 when
-- .. its record number is beyond the caller's allowance .., at .. 14's [place]". Allowed or not, the record is read this far and needs its row, so
-- "where the lent table is too short as well, 14".
unfoldable pub record_at : List ℕ → ℕ → ℕ → ℕ → Part Rec
record_at f base allowed at =
    let h = head_at f at in
    let is : Body → Rec = λ b. record { head = h; place = base + (at + 16); body = b } in
    cond (eqb allowed 0) (part (is (body [] [] [])) (refused 29))
    (cond (has f (at + 16) h.ilen)
    (let b = body_at f base h.clen (at + 16 + h.ilen) in
    part (is b.it) (bind b.end (λ _. cond (eqb h.size 0) (refused 8) (ok (at + h.size)))))
    (part (is (body [] [] [])) (refused 7)))

-- "records, which follow until the place reaches the section size". Each moves the place on, so as many as the file has bytes do.
unfoldable pub records_from : List ℕ → ℕ → ℕ → ℕ → ℕ → ℕ → Read Rec
records_from f base size zero allowed at = reading [] (ok at)
records_from f base size (suc n) allowed at =
    cond (leb size at) (reading [] (ok at))
    (cond (has f at 16)
    (let r = record_at f base allowed at in add r.it (and_then r.end (records_from f base size n (allowed - 1))))
    (reading [] (refused 7)))

-- The section: "IREP has 4 more header bytes; its size is tested against the file before its records". It ends on at its size.
unfoldable pub irep_section : List ℕ → ℕ → ℕ → Read Rec
irep_section f base allowed =
    cond (has f 0 12)
    (cond (leb (u32_at f 4) (length f))
    (let r = records_from f base (u32_at f 4) (length f) allowed 12 in
    reading r.rows (bind r.end (λ _. cond (eqb (u32_at f 4) 0) (refused 8) (ok (u32_at f 4)))))
    (reading [] (refused 7)))
    (reading [] (refused 7))
