-- Laws of the headers' fields, of a record's next place, and of the turns of the loop over records.
-- Assumes nothing.
use Prim.Native.Nat.{ℕ, zero, suc, ◌+◌, ◌-◌, ◌≤◌, ◌<◌}
use mathlib.Core.Path.{◌≡◌, refl, sym, ◌∙◌}
use mathlib.Core.Bool.{Bool, true, false}
use mathlib.Core.List.{List}
use native.Mathlib.Omega.{arith}
use native.Mathlib.Nat.{add-zero, add_assoc}
use lib.Dec.{leb, ltb, eqb}
use lib.ListN.{length, take, drop, length-drop}
use lib.Seq.{get_or-drop}
use borrow.Author.Tests.{le-leb, lt-leb, eqb-false}
use Rattle.format.specs.Bytes.{Answer, ok, refused, on_answer, bind, has, reads, u16_at, u32_at}
use Rattle.format.specs.Headers.{RecordHeader, record_header}
use Rattle.format.specs.Irep.{Head, head_at}
use Rattle.format.specs.Rows.{record_width}
use Rattle.format.proofs.Answers.{either}
use Rattle.format.proofs.Places.{part_is}
use Rattle.rows.specs.Table.{row_count}
use Rattle.irep.specs.declared.Limits.{Limits}
use Rattle.irep.specs.declared.Used.{Used}
use Rattle.irep.specs.declared.Reached.{Reached}
use Rattle.irep.specs.Record.{reached, Lent, Run, run, body_of, finish_of, record_of, records_of}

nothing : 1 ≤ 0 → ⊥
nothing p = omega arith

-- a record's header as numbers
abbrev pub head_in : RecordHeader → Head
head_in h =
    record {
      size = u32_at h.size 0;
      nlocals = u16_at h.nlocals 0;
      nregs = u16_at h.nregs 0;
      rlen = u16_at h.rlen 0;
      clen = u16_at h.clen 0;
      ilen = u32_at h.ilen 0;
    }

-- a header read at the start of a part is the one at the part's place
pub head_bytes : (f : List ℕ) (at : ℕ) (a : Answer RecordHeader) → a ≡ record_header (take (length f - at) (drop at f))
    → bind a (λ h. ok (head_in h)) ≡ reads f at 16 (head_at f at)
unfolding head_at
head_bytes f at a e = rw (e, part_is f at) (by_has (has (drop at f) 0 16) refl)
  where
    d : length f - at - 0 ≡ length f - at
    d = omega arith

    same : has (drop at f) 0 16 ≡ has f at 16
    same = rw (length-drop, d)

    by_has : (b : Bool) → has (drop at f) 0 16 ≡ b → bind (record_header (drop at f)) (λ h. ok (head_in h)) ≡ reads f at 16 (head_at f at)
    by_has true b = rw (b, sym same ∙ b) (simp (get_or-drop, add-zero, add_assoc))
    by_has false b = rw (b, sym same ∙ b)

-- where an answer goes on, that is past a place
Later : ℕ → Answer Reached → Type 0
Later at a = (r : Reached) → a ≡ ok r → at < r.at

module _ (at : ℕ) where
  refuses : (k : ℕ) → Later at (refused k)
  unfolding Later
  refuses k r e = let z : ◌≡◌ {A = ℕ} 0 1 = cc in elim (nothing (omega arith)) [ ]

  after : (a : Answer Used) (k : Used → Run Reached) (e : ℕ → Run Reached) → ((v : Used) → Later at (k v).ans) → ((n : ℕ) → Later at (e n).ans)
      → Later at (on_answer a k e).ans
  after (ok v) k e p q = p v
  after (refused n) k e p q = q n

  finish_later : (h : Head) (base : ℕ) (records : List ℕ) (u v : Used) → Later at (finish_of h base at records u v).ans
  unfolding finish_of Later
  finish_later h base records u v r e = by_size (eqb h.size 0) refl
    where
      by_row : (h.size ≡ 0 → ⊥) → eqb h.size 0 ≡ false → (b : Bool) → ltb u.records (row_count (length records) record_width) ≡ b → at < r.at
      by_row p z true b = let q = rw (z, b) at e in let n : r.at ≡ at + h.size = cc in omega arith
      by_row p z false b = let q = rw (z, b) at e in let z : ◌≡◌ {A = ℕ} 0 1 = cc in omega arith

      by_size : (b : Bool) → eqb h.size 0 ≡ b → at < r.at
      by_size true b = let q = rw b at e in let z : ◌≡◌ {A = ℕ} 0 1 = cc in omega arith
      by_size false b = by_row (eqb-false h.size 0 b) b (ltb u.records (row_count (length records) record_width)) refl

-- a record moves the place on
record_later : (f : List ℕ) (base : ℕ) (limit : Limits) (at : ℕ) (t : Lent) (u : Used) → Later at (record_of f base limit at t u).ans
unfolding record_of Later
record_later f base limit at t u =
    let P : Run Reached → Type 0 = λ x. Later at x.ans in
    let h = head_at f at in
    either P (has f at 16) _ _
    (λ _. either P (leb limit.most u.records) _ _ (λ _. refuses at 14)
    (λ _. either P (leb (row_count (length t.records) record_width) u.records) _ _ (λ _. refuses at 14)
    (λ _. either P (leb limit.allowed u.records) _ _ (λ _. refuses at 29)
    (λ _. either P (has f (at + 16) h.ilen) _ _
    (λ _. after at (body_of f base h.clen (at + 16 + h.ilen) t.handlers t.pool t.symbols u).ans _ _
    (λ v. finish_later at h base t.records u v)
    (λ k. refuses at k))
    (λ _. refuses at 7)))))
    (λ _. refuses at 7)

pub record_next : (f : List ℕ) (base : ℕ) (limit : Limits) (at : ℕ) (t : Lent) (u : Used) (r : Reached) (t' : Lent) → run (ok r) t' ≡ record_of f base limit at t u → at < r.at
unfolding Later
record_next f base limit at t u r t' e = record_later f base limit at t u r (rw (← e))

module _ (f : List ℕ) (base size : ℕ) (limit : Limits) (at : ℕ) (t : Lent) (u : Used) where
  -- the place reaches the size
  pub records_done : (n : ℕ) → size ≤ at → run (ok (reached at u)) t ≡ records_of f base size limit n at t u
  unfolding records_of
  records_done zero h = refl
  records_done (suc n) h = rw (le-leb _ _ h)

  module _ (n : ℕ) (left : size - at ≤ n) (below : at < size) (t' : Lent) where
    -- a record that goes on
    pub records_go : (r : Reached) → run (ok r) t' ≡ record_of f base limit at t u → records_of f base size limit (n - 1) r.at t' r.used ≡ records_of f base size limit n at t u
    unfolding records_of
    records_go r e = unroll (n - 1) (omega arith)
      where
        unroll : (m : ℕ) → n ≡ suc m → records_of f base size limit m r.at t' r.used ≡ records_of f base size limit n at t u
        unroll m d = rw (d, lt-leb _ _ below, ← e)

    -- a record that refuses
    pub records_no : (k : ℕ) → run (refused k) t' ≡ record_of f base limit at t u → run (refused k) t' ≡ records_of f base size limit n at t u
    unfolding records_of
    records_no k e = let d : n ≡ suc (n - 1) = omega arith in rw (d, lt-leb _ _ below, ← e)
