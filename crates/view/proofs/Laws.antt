-- After a load the view of a record shows its instruction bytes.
-- Assumes nothing.
use Prim.Native.Nat.{ℕ, ◌≤◌, ◌<◌}
use native.Mathlib.Omega.{arith}
use mathlib.Core.Path.{◌≡◌, refl}
use mathlib.Core.Bool.{Bool, true, false}
use mathlib.Core.List.{List, []}
use lib.Dec.{leb}
use lib.ListN.{length, get_or, get_or-eq_default}
use borrow.Author.Tests.{le-leb, leb-true, leb-false}
use Rattle.format.specs.Bytes.{ok}
use Rattle.format.specs.Irep.{head_at, body, Rec}
use Rattle.format.specs.Allowance.{Allowance}
use Rattle.format.specs.File.{Content}
use Rattle.format.specs.Load.{Nine, records_of, files_of, tables_of, loading, load}
use Rattle.format.specs.Lookup.{record_row_at}
use Rattle.format.specs.Pattern.{pattern_of, rec_at, blank}
use Rattle.format.proofs.Places.{records_length}
use Rattle.layout.proofs.Own.{owns}
use Rattle.layout.proofs.Inside.{loading_inside, loading_held}
use Rattle.layout.proofs.Pattern.{pattern_length, pattern_at}
use Rattle.records_row.specs.Row.{row_at}
use Rattle.records_row.proofs.Laws.{table_rows}
use Rattle.view.specs.declared.RecordView.{RecordView}
use Rattle.view.specs.View.{part_of, shown}

no_bytes : (f : List ℕ) → part_of f 0 0 ≡ []
unfolding part_of
no_bytes f = rw (le-leb 0 (length f) (omega arith))

module _ (f : List ℕ) (m : Nine) (a : Allowance) (c : Content) (loaded : loading f m a ≡ ok c) where
  -- the bytes that row i names are the instructions of record i, and none past the last record
  row_shows : (i : ℕ) → part_of f (row_at (load f m a).tables.records i).place (row_at (load f m a).tables.records i).ilen ≡ (rec_at (pattern_of f c) i).code
  unfolding load part_of
  row_shows i =
      rw (loaded, table_rows m.records (tables_of c).records (loading_held f m a c loaded).records i) (go (leb (length (records_of c)) i) refl)
    where
      go : (b : Bool) → leb (length (records_of c)) i ≡ b
          → part_of f (get_or (tables_of c).records i (record_row_at [] 0)).place (get_or (tables_of c).records i (record_row_at [] 0)).ilen ≡ (rec_at (pattern_of f c) i).code
      go true e =
          let h : length (records_of c) ≤ i = leb-true _ _ e in
          let rows : length (tables_of c).records ≤ i = rw records_length h in
          let records : length (pattern_of f c) ≤ i = rw pattern_length h in
          rw (get_or-eq_default (tables_of c).records (record_row_at [] 0) rows, get_or-eq_default (pattern_of f c) blank records) (no_bytes f)
      go false e =
          let d : Rec = record { head = head_at [] 0; place = 0; body = body [] [] [] } in
          let h : i < length (records_of c) = leb-false _ _ e in
          let o = owns c i h d (record_row_at [] 0) in
          rw (o.place, o.ilen, pattern_at f (records_of c) (files_of c) i d blank h, le-leb _ _ ((loading_inside f m a c loaded).records i d h).bytes)

  -- A view as `new` makes it of row i shows the code of record i of the pattern.
  pub shows_code : (i : ℕ) (v : RecordView) → v.file.now ≡ f → v.place ≡ (row_at (load f m a).tables.records i).place → v.size ≡ (row_at (load f m a).tables.records i).ilen
      → shown v ≡ (rec_at (pattern_of f c) i).code
  shows_code i v e p z = rw (e, p, z) (row_shows i)
