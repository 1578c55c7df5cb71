-- `child_at`'s loop over the rlens of the record table.
-- Assumes nothing.
use Prim.Native.Nat.{ℕ, zero, suc, ◌+◌, ◌-◌, ◌*◌, ◌≤◌, ◌<◌}
use native.Mathlib.Nat.{zero-add}
use native.Mathlib.Numerals.{add-one}
use native.Mathlib.Omega.{arith}
use mathlib.Core.Path.{◌≡◌, refl}
use mathlib.Core.List.{List, []}
use lib.ListN.{length, get_or, drop, drop_of_length-le}
use Rattle.format.specs.Lookup.{record_word}
use Rattle.format.specs.Tree.{span, child_of}
use Rattle.format.proofs.RowsFrom.{rows_from_length, rows_from_at}
use Rattle.runs.proofs.Tree.{kid_closed, span_zero, span_nil}
use Rattle.runs.proofs.Loops.{span_turn}
use Rattle.exam.specs.View.{rlens_at}

-- p subtrees are still to pass from record i on
pub record Seeking (recs : List ℕ) (n r k i p : ℕ) : Type 0 where
  pub inside : i ≤ n
  pub bounded : p ≤ 4294967296 * (i + 1)
  pub same : child_of (rlens_at recs n) r k ≡ i + span p (drop i (rlens_at recs n))

count : (recs : List ℕ) (n : ℕ) → length (rlens_at recs n) ≡ n
count recs n = rows_from_length (λ (x : ℕ). record_word recs x 3) 0 n

rlen_at : (recs : List ℕ) (n i : ℕ) → i < n → get_or (rlens_at recs n) i 0 ≡ record_word recs i 3
rlen_at recs n i h = rw zero-add at (rows_from_at (λ (x : ℕ). record_word recs x 3) 0 n i 0 h)

module _ {recs : List ℕ} {n r k : ℕ} where
  pub seeking_start : r < n → k < 4294967296 → Seeking recs n r k (r + 1) k
  seeking_start h g = record { inside = omega arith; bounded = omega arith; same = rw add-one (kid_closed (rlens_at recs n) r k) }

  -- v: the rlen of record i
  pub seeking_turn : (i p v : ℕ) → i < n → (p ≡ 0 → ⊥) → v ≡ record_word recs i 3 → v < 4294967296 → Seeking recs n r k i p
      → Seeking recs n r k (i + 1) (p - 1 + v)
  seeking_turn i zero v h z e b s = absurd (z refl)
  seeking_turn i (suc p) v h z e b s = record {
    inside = omega arith;
    bounded = omega (arith, s.bounded);
    same =
        let q : suc p - 1 + v ≡ p + get_or (rlens_at recs n) i 0 = omega (arith, rlen_at recs n i h) in
        rw (add-one, q) (omega (arith, s.same, span_turn (rlens_at recs n) i p (omega (arith, count recs n))));
  }

  pub seeking_none : (i p : ℕ) → p ≡ 0 → Seeking recs n r k i p → i ≡ child_of (rlens_at recs n) r k
  seeking_none i p e s =
      let q : span p (drop i (rlens_at recs n)) ≡ 0 = rw e (span_zero (drop i (rlens_at recs n))) in
      omega (arith, s.same)

  pub seeking_end : (i p : ℕ) → n ≤ i → Seeking recs n r k i p → i ≡ child_of (rlens_at recs n) r k
  seeking_end i p h s =
      let d : drop i (rlens_at recs n) ≡ [] = drop_of_length-le (rlens_at recs n) {i = i} (omega (arith, count recs n)) in
      let q : span p (drop i (rlens_at recs n)) ≡ 0 = rw d (span_nil p) in
      omega (arith, s.same)
