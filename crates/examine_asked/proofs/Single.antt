-- A single record of a pattern's tables, and how many records these have.
-- Assumes nothing.
use Prim.Native.Nat.{ℕ, zero, suc, ◌+◌, ◌≤◌, ◌<◌}
use native.Mathlib.Nat.{zero-add}
use native.Mathlib.Omega.{arith}
use mathlib.Core.Path.{◌≡◌, refl}
use mathlib.Core.List.{List}
use lib.ListN.{length}
use borrow.Author.Tests.{lt-ltb, le-ltb}
use Rattle.format.specs.Bytes.{first}
use Rattle.format.specs.Pattern.{blank}
use Rattle.format.specs.Exam.{examine_record, examine_all, examine_single}
use Rattle.format.proofs.RowsFrom.{rows_from_length, rows_from_at, rows_turn, rows_end}
use Rattle.exam.specs.View.{record_at, records_between, pattern_at}

first_alone : (a : ℕ) → first a 0 ≡ a
first_alone zero = refl
first_alone (suc a) = refl

module _ (f recs hs ls : List ℕ) (n : ℕ) where
  pub pattern_length : length (pattern_at f recs hs ls n) ≡ n
  pattern_length = rows_from_length (record_at f recs hs ls) 0 n

  module _ (q : List ℕ) (i : ℕ) where
    -- a missing record is 22
    pub missing : n ≤ i → 22 ≡ examine_single q i (pattern_at f recs hs ls n)
    unfolding examine_single
    missing h = rw (pattern_length, le-ltb i n h)

    -- one that is there is examined by itself
    pub single_is : (r : ℕ) → r ≡ i → r < n → examine_all q (records_between f recs hs ls r (r + 1)) ≡ examine_single q i (pattern_at f recs hs ls n)
    unfolding examine_single examine_all
    single_is r e h =
        let row = record_at f recs hs ls in
        rw (← e, rows_turn row r (r + 1) (omega arith), rows_end row (r + 1) (r + 1) (omega arith), pattern_length, lt-ltb r n h, rows_from_at row 0 n r blank h, zero-add)
        (first_alone (examine_record q (row r)))
