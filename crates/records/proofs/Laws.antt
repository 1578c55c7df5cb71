-- What the structs of record rows say: after a load what was read of the records, and after a refusal nothing.
-- Assumes nothing.
use Prim.Native.Nat.{ℕ, ◌+◌, ◌<◌}
use native.Mathlib.Nat.{zero-add, sub-zero}
use mathlib.Core.Path.{◌≡◌, sym, ◌∙◌}
use mathlib.Core.List.{List, []}
use lib.ListN.{get_or, replicate, length-replicate, get_or-replicate}
use lib.Seq.{ext_get_or}
use Rattle.format.specs.Bytes.{ok, refused}
use Rattle.format.specs.Rows.{record_words, table_of}
use Rattle.format.specs.Allowance.{Allowance}
use Rattle.format.specs.File.{Content}
use Rattle.format.specs.Load.{Nine, tables_of, loading, load}
use Rattle.format.specs.Lookup.{record_row_at}
use Rattle.format.proofs.RowsFrom.{rows_from_length, rows_from_at}
use Rattle.layout.proofs.Inside.{loading_held}
use Rattle.records_row.specs.Row.{struct_of, zero_row, row_at}
use Rattle.records_row.proofs.Laws.{table_rows, zero_row_lem}
use Rattle.records.specs.Records.{rows_of}

-- Zero words give rows of zeros.
pub zero_rows : (m n : ℕ) → rows_of (replicate m 0) n ≡ replicate n zero_row
zero_rows m n =
    ext_get_or zero_row (rows_of (replicate m 0) n) (replicate n zero_row) (rows_from_length (row_at (replicate m 0)) 0 n ∙ sym (length-replicate n zero_row)) (λ j g.
    let k : j < n = rw (rows_from_length (row_at (replicate m 0)) 0 n) at g in
    rows_from_at (row_at (replicate m 0)) 0 n j zero_row k ∙ zero_row_lem m (0 + j) ∙ sym (get_or-replicate n j zero_row zero_row k))

-- After a refusal every row is zeros.
pub refused_rows : (f : List ℕ) (m : Nine) (a : Allowance) (e n : ℕ) → loading f m a ≡ refused e → rows_of (load f m a).tables.records n ≡ replicate n zero_row
unfolding load
refused_rows f m a e n r = rw (r, sub-zero) (zero_rows m.records n)

-- After a load that is not refused row i is that of record i of what was read, and zeros past the last record.
pub loaded_rows : (f : List ℕ) (m : Nine) (a : Allowance) (c : Content) → loading f m a ≡ ok c → (n i : ℕ) → i < n
    → get_or (rows_of (load f m a).tables.records n) i zero_row ≡ struct_of (get_or (tables_of c).records i (record_row_at [] 0))
unfolding load
loaded_rows f m a c e n i h =
    let t = table_of record_words m.records (tables_of c).records in
    rw e (rows_from_at (row_at t) 0 n i zero_row h ∙ rw zero-add (table_rows m.records (tables_of c).records (loading_held f m a c e).records i))
