-- One row more of `fill`.
-- Assumes nothing.
use mathlib.Core.Path.{◌≡◌, ◌∙◌, ap}
use Prim.Native.Nat.{ℕ, zero, suc, ◌+◌, ◌<◌}
use native.Mathlib.Numerals.{add-one}
use native.Mathlib.Nat.{add-zero, add-suc, suc-add, zero-add}
use mathlib.Core.List.{List, [], ◌∷◌, ◌++◌}
use lib.ListN.{length, take, set}
use Rattle.std.proofs.Math.Seq.{take-suc-set}
use Rattle.format.specs.Line.{rows_from}
use Rattle.records_row.specs.declared.Record.{Record}
use Rattle.records_row.specs.Row.{row_at}
use Rattle.records.specs.Records.{rows_of}

-- one row more at the end
rows_from_last : {R : Type 0} (f : ℕ → R) (i n : ℕ) → rows_from f i (suc n) ≡ rows_from f i n ++ (f (i + n) ∷ [])
unfolding rows_from
rows_from_last f i zero = rw add-zero
rows_from_last f i (suc n) = ap (λ l. f i ∷ l) (rows_from_last f (suc i) n ∙ rw (suc-add, ← add-suc))

pub filled_more : (ws : List ℕ) (xs : List Record) (i : ℕ) → i < length xs → take i xs ≡ rows_of ws i → take (i + 1) (set xs i (row_at ws i)) ≡ rows_of ws (i + 1)
filled_more ws xs i h e = rw (add-one, take-suc-set xs i (row_at ws i) h, e, rows_from_last (row_at ws) 0 i, zero-add)
