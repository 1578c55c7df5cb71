-- A record of a file of bytes has at most 65,535 rows in each list, and as many children, since two bytes hold the count; a section has at most as
-- many records as bytes.
-- Assumes nothing.
use Prim.Native.Nat.{ℕ, zero, suc, ◌+◌, ◌-◌, ◌*◌, ◌≤◌, ◌<◌}
use native.Mathlib.Omega.{arith}
use mathlib.Core.List.{List, [], ◌∷◌}
use lib.Dec.{leb, eqb}
use lib.ListN.{length, get_or, length-append}
use Rattle.format.specs.Bytes.{Answer, ok, refused, Step, has, u16_at, u32_at}
use Rattle.format.specs.Reading.{Read, Part, and_then, in_turn}
use Rattle.format.specs.Irep.{handler, symbol_text, pool_entry, counted, head_at, Body, body, Rec, body_at, record_at, records_from, irep_section}
use Rattle.format.specs.Load.{gathered}
use Rattle.format.specs.Tree.{total}
use Rattle.format.proofs.Answers.{either}
use Rattle.format.specs.Walk.{rlens}
use Rattle.bounds.proofs.Covers.{in_turn_count}

-- what holds of no rows and of those that follow holds wherever reading ended
and_then_rows : {R : Type 0} (P : List R → Type 0) (e : Answer ℕ) (k : ℕ → Read R) → P [] → ((at : ℕ) → P (k at).rows) → P (and_then e k).rows
and_then_rows P (ok at) k z h = h at
and_then_rows P (refused e) k z h = z

-- a record's lists
pub record Small (x : Body) : Type 0 where
  pub handlers : length x.handlers ≤ 65535
  pub pool : length x.pool ≤ 65535
  pub symbols : length x.symbols ≤ 65535

-- with its number of children
abbrev SmallRec : Rec → Type 0
SmallRec r = Small r.body × (r.head.rlen ≤ 65535)

-- at most n records, and the lists and the children of them all
pub record Sums (n : ℕ) (rs : List Rec) : Type 0 where
  pub records : length rs ≤ n
  pub handlers : length (gathered (λ (r : Rec). r.body.handlers) rs) ≤ length rs * 65535
  pub pool : length (gathered (λ (r : Rec). r.body.pool) rs) ≤ length rs * 65535
  pub symbols : length (gathered (λ (r : Rec). r.body.symbols) rs) ≤ length rs * 65535
  pub children : total (rlens rs) ≤ length rs * 65535

pub no_sums : (n : ℕ) → Sums n []
unfolding total
no_sums n = record { records = omega arith; handlers = omega arith; pool = omega arith; symbols = omega arith; children = omega arith }

-- a record before the others
one_more : (n : ℕ) (r : Rec) (rs : List Rec) → SmallRec r → Sums n rs → Sums (suc n) (r ∷ rs)
unfolding total
one_more n r rs (x, few) y =
    record {
      records = omega arith;
      handlers = rw length-append (omega arith);
      pool = rw length-append (omega arith);
      symbols = rw length-append (omega arith);
      children = omega (arith, few, y.children);
    }

module _ (f : List ℕ) (bytes : (i : ℕ) → get_or f i 0 < 256) (base : ℕ) where
  -- a field of two bytes
  small16 : (at : ℕ) → u16_at f at ≤ 65535
  small16 at = omega (arith, bytes at, bytes (at + 1))

  -- the lists that begin with their count, and those of a record
  counted_small : {R : Type 0} (p : ℕ → Answer (Step R)) (at : ℕ) → length (counted f p at).rows ≤ 65535
  unfolding counted
  counted_small p at =
      either (λ (x : Read _). length x.rows ≤ 65535) (has f at 2) _ _
      (λ _. omega (arith, in_turn_count p (u16_at f at) (at + 2), small16 at))
      (λ _. omega arith)

  body_at_small : (n at : ℕ) → n ≤ 65535 → Small (body_at f base n at).it
  unfolding body_at
  body_at_small n at h =
      let a = in_turn (handler f) n at in
      let b = and_then a.end (counted f (pool_entry f base)) in
      record {
        handlers = omega (arith, in_turn_count (handler f) n at);
        pool = and_then_rows (λ l. length l ≤ 65535) a.end (counted f (pool_entry f base)) (omega arith) (counted_small (pool_entry f base));
        symbols = and_then_rows (λ l. length l ≤ 65535) b.end (counted f (symbol_text f base)) (omega arith) (counted_small (symbol_text f base));
      }

  pub record_at_small : (allowed at : ℕ) → SmallRec (record_at f base allowed at).it
  unfolding record_at head_at
  record_at_small allowed at =
      let none : Small (body [] [] []) = record { handlers = omega arith; pool = omega arith; symbols = omega arith } in
      either (λ (x : Part Rec). SmallRec x.it) (eqb allowed 0) _ _
      (λ _. (none, small16 (at + 8)))
      (λ _. either (λ (x : Part Rec). SmallRec x.it) (has f (at + 16) (head_at f at).ilen) _ _
      (λ _. (body_at_small (head_at f at).clen (at + 16 + (head_at f at).ilen) (small16 (at + 10)), small16 (at + 8)))
      (λ _. (none, small16 (at + 8))))

  -- the records from a place on, and the section's
  pub records_from_sums : (size n allowed at : ℕ) → Sums n (records_from f base size n allowed at).rows
  unfolding records_from
  records_from_sums size zero allowed at = no_sums zero
  records_from_sums size (suc n) allowed at =
      either (λ (x : Read Rec). Sums (suc n) x.rows) (leb size at) _ _
      (λ _. no_sums (suc n))
      (λ _. either (λ (x : Read Rec). Sums (suc n) x.rows) (has f at 16) _ _
      (λ _. one_more n _ _ (record_at_small allowed at)
      (and_then_rows (Sums n) (record_at f base allowed at).end (records_from f base size n (allowed - 1)) (no_sums n) (records_from_sums size n (allowed - 1))))
      (λ _. no_sums (suc n)))

  pub irep_section_sums : (allowed : ℕ) → Sums (length f) (irep_section f base allowed).rows
  unfolding irep_section
  irep_section_sums allowed =
      either (λ (x : Read Rec). Sums (length f) x.rows) (has f 0 12) _ _
      (λ _. either (λ (x : Read Rec). Sums (length f) x.rows) (leb (u32_at f 4) (length f)) _ _
      (λ _. records_from_sums (u32_at f 4) (length f) allowed 12)
      (λ _. no_sums (length f)))
      (λ _. no_sums (length f))
