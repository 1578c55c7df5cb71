-- The readers over a table agree with the reading that knows no table: rows in turn over a table that holds rows, and then zeros, end as
-- the reading does, with the rows read behind those, as long as the table has them; else by 14. For every kind of row.
-- Assumes nothing.
use Prim.Native.Nat.{ℕ, zero, suc, ◌+◌, ◌-◌, ◌*◌, ◌/◌, ◌≤◌, ◌<◌}
use native.Mathlib.Nat.{le-div_iff_mul-le}
use native.Mathlib.Omega.{arith}
use mathlib.Core.Path.{◌≡◌, refl}
use mathlib.Core.Bool.{Bool, true, false, cond}
use mathlib.Core.List.{List, [], ◌∷◌, ◌++◌, append_assoc, append-nil}
use lib.Dec.{ltb}
use lib.ListN.{length, drop, replicate, length-append, length-replicate}
use lib.Seq.{take_at, drop-append-add}
use borrow.Author.Tests.{lt-ltb, le-ltb, ltb-true, ltb-false}
use Rattle.format.specs.Bytes.{Answer, ok, refused, Step, step, has, u16_at}
use Rattle.format.specs.Reading.{Read, reading, in_turn}
use Rattle.format.specs.Rows.{flat, table_of}
use Rattle.format.specs.Irep.{counted}
use Rattle.format.proofs.Places.{flat_length}
use Rattle.rows.specs.Table.{Out, out, next, splice, row_count, put_of, put_step, times}

-- how a run over tables goes with a reading's end: it goes on where all fits, stops by the reading's number where all fits, else by 14
pub data Ran (end : Answer ℕ) (Fits : Type 0) (Went : ℕ → Type 0) (Stopped : ℕ → Type 0) : Type 0 where
  went : (at : ℕ) → end ≡ ok at → Fits → Went at → Ran end Fits Went Stopped
  stop : (k : ℕ) → end ≡ refused k → Fits → Stopped k → Ran end Fits Went Stopped
  full : (Fits → ⊥) → Stopped 14 → Ran end Fits Went Stopped

drop_replicate : (i n : ℕ) → drop i (replicate n zero) ≡ replicate (n - i) zero
drop_replicate zero n = let e : n - 0 ≡ n = omega arith in rw e
drop_replicate (suc i) zero = let e : 0 - suc i ≡ 0 = omega arith in rw e
drop_replicate (suc i) (suc n) = let e : suc n - suc i ≡ n - i = omega arith in rw e (drop_replicate i n)

module _ {R : Type 0} (words : R → List ℕ) where
  pub flat_snoc : (rs : List R) (x : R) → flat words (rs ++ x ∷ []) ≡ flat words rs ++ words x
  flat_snoc [] x = append-nil (words x)
  flat_snoc (r ∷ rs) x = rw (flat_snoc rs x, append_assoc)

  -- a row is put behind the others
  pub put_table : (m : ℕ) (rs : List R) (x : R) (i : ℕ) → length (flat words rs) ≡ i → splice (table_of words m rs) i (words x) ≡ table_of words m (rs ++ x ∷ [])
  put_table m rs x i e =
      let F = flat words rs in
      let k : m - length F - length (words x) ≡ m - (length F + length (words x)) = omega arith in
      rw (← e, take_at F (replicate (m - length F) 0) (length F) refl, drop-append-add, drop_replicate, flat_snoc, length-append, k)

module _ {R : Type 0} (words : R → List ℕ) (w : ℕ) (wide : (r : R) → length (words r) ≡ w) (pos : 0 < w) (m : ℕ) where
  -- a table with room has its own length
  pub length_table : (rs : List R) → length rs ≤ row_count m w → length (table_of words m rs) ≡ m
  length_table rs h =
      let k : length rs ≤ m / w = omega arith in
      let i : length rs * w ≤ m = (le-div_iff_mul-le pos).0 k in
      rw (length-append, length-replicate, flat_length words w wide rs) (omega arith)

  pub put_there : (rs : List R) (x : R) (z : ℕ) → length rs < row_count m w
      → put_of z (length rs) (table_of words m rs) (words x) ≡ out (next z (length (rs ++ x ∷ []))) (table_of words m (rs ++ x ∷ []))
  put_there rs x z h =
      let e : length (rs ++ x ∷ []) ≡ length rs + 1 = length-append rs (x ∷ []) in
      rw (e, ← put_table words m rs x (length rs * w) (flat_length words w wide rs), length_table rs (omega arith), wide x, lt-ltb (length rs) (row_count m w) h)

  pub put_full : (rs : List R) (x : R) (z : ℕ) → length rs ≤ row_count m w → row_count m w ≤ length rs
      → put_of z (length rs) (table_of words m rs) (words x) ≡ out (refused 14) (table_of words m rs)
  put_full rs x z h g = rw (length_table rs h, wide x, le-ltb _ _ g)

  -- a run over one table, which holds the rows rs before it
  abbrev pub RowsRan : List R → Read R → Out → Type 0
  RowsRan rs r o =
      Ran r.end (length (rs ++ r.rows) ≤ row_count m w)
      (λ at. o ≡ out (next at (length (rs ++ r.rows))) (table_of words m (rs ++ r.rows)))
      (λ k. o.ans ≡ refused k)

  pub ran_bad : (rs : List R) (k : ℕ) (o : Out) → length rs ≤ row_count m w → o.ans ≡ refused k → RowsRan rs (reading [] (refused k)) o
  ran_bad rs k o h e = stop k refl (rw append-nil h) e

  module _ (row : ℕ → ℕ → List ℕ → Out) (p : ℕ → Answer (Step R)) (agree : (at u : ℕ) (t : List ℕ) → row at u t ≡ put_step words (p at) u t) where
    pub times_ran : (n at : ℕ) (rs : List R) → length rs ≤ row_count m w → RowsRan rs (in_turn p n at) (times row n at (length rs) (table_of words m rs))
    times_ran zero at rs h = went at refl (rw append-nil h) (rw append-nil)
    times_ran (suc n) at rs h = turn (p at) refl (times_ran n)
      where
        IH : Type 0
        IH = (at : ℕ) (rs : List R) → length rs ≤ row_count m w → RowsRan rs (in_turn p n at) (times row n at (length rs) (table_of words m rs))

        Goal : Type 0
        Goal = RowsRan rs (in_turn p (suc n) at) (times row (suc n) at (length rs) (table_of words m rs))

        room : (x : R) (z : ℕ) → p at ≡ ok (step x z) → IH → (b : Bool) → ltb (length rs) (row_count m w) ≡ b → Goal
        room x z q ih true b =
            let l = length-append rs (x ∷ []) in
            let lt = ltb-true (length rs) (row_count m w) b in
            rw (agree at (length rs) (table_of words m rs), q, put_there rs x z lt) (rw append_assoc at (ih z (rs ++ x ∷ []) (omega (arith, l))))
        room x z q ih false b =
            let ge = ltb-false (length rs) (row_count m w) b in
            rw (agree at (length rs) (table_of words m rs), q, put_full rs x z h ge)
            (full (λ f. omega (arith, length-append rs (x ∷ (in_turn p n z).rows))) refl)

        turn : (g : Answer (Step R)) → p at ≡ g → IH → Goal
        turn (ok s) q ih = room s.it s.next q ih (ltb (length rs) (row_count m w)) refl
        turn (refused k) q ih = rw (agree at (length rs) (table_of words m rs), q) (ran_bad rs k _ h refl)

    -- a count, then as many rows
    pub counted_ran : (f : List ℕ) (at : ℕ) (rs : List R) → length rs ≤ row_count m w
        → RowsRan rs (counted f p at) (cond (has f at 2) (times row (u16_at f at) (at + 2) (length rs) (table_of words m rs)) (out (refused 7) (table_of words m rs)))
    unfolding counted
    counted_ran f at rs h = go (has f at 2) refl
      where
        go : (b : Bool) → has f at 2 ≡ b → RowsRan rs (counted f p at) (cond (has f at 2) (times row (u16_at f at) (at + 2) (length rs) (table_of words m rs)) (out (refused 7) (table_of words m rs)))
        go true b = rw b (times_ran (u16_at f at) (at + 2) rs h)
        go false b = rw b (ran_bad rs 7 _ h refl)
