-- The test of sizes is the room that the tables have.
-- Assumes nothing.
use Prim.Native.Nat.{ℕ, ◌/◌, ◌≤◌}
use native.Mathlib.Nat.{le_trans}
use native.Mathlib.Omega.{arith}
use mathlib.Core.Path.{◌≡◌, refl, sym, subst}
use mathlib.Core.Bool.{Bool, true, false}
use lib.Dec.{T, leb→le}
use lib.ListN.{length}
use borrow.Author.Tests.{le-leb}
use Rattle.format.specs.File.{Content}
use Rattle.format.proofs.Table.{both}
use Rattle.format.specs.Load.{Nine, tables_of, used, fits}
use Rattle.format.specs.Rows.{record_width}
use Rattle.rows.specs.Table.{row_count}
use Rattle.bounds.proofs.Bounds.{Bounds}
use Rattle.bounds.proofs.Grows.{Less}

-- the tables have room for what was read
pub record Room (limit : ℕ) (m : Nine) (c : Content) : Type 0 where
  pub limited : length (tables_of c).records ≤ limit
  pub records : length (tables_of c).records ≤ row_count m.records record_width
  pub handlers : length (tables_of c).handlers ≤ row_count m.handlers 4
  pub pool : length (tables_of c).pool ≤ row_count m.pool 3
  pub symbols : length (tables_of c).symbols ≤ row_count m.symbols 2
  pub strings : length (tables_of c).strings ≤ row_count m.strings 2
  pub names : length (tables_of c).names ≤ row_count m.names 1
  pub file_names : length (tables_of c).file_names ≤ row_count m.file_names 2
  pub files : length (tables_of c).files ≤ row_count m.files 4
  pub lines : length (tables_of c).lines ≤ row_count m.lines 2

-- room for more is room for less
pub room_less : (limit : ℕ) (m : Nine) (c c' : Content) → Less c c' → Room limit m c' → Room limit m c
room_less limit m c c' x r =
    record {
      limited = le_trans x.records r.limited;
      records = le_trans x.records r.records;
      handlers = le_trans x.handlers r.handlers;
      pool = le_trans x.pool r.pool;
      symbols = le_trans x.symbols r.symbols;
      strings = le_trans x.strings r.strings;
      names = le_trans x.names r.names;
      file_names = le_trans x.file_names r.file_names;
      files = le_trans x.files r.files;
      lines = le_trans x.lines r.lines;
    }

module _ (limit : ℕ) (m : Nine) (c : Content) where
  pub fits_true : Room limit m c → fits limit m (used (tables_of c)) ≡ true
  unfolding fits
  fits_true r =
      rw (
        le-leb (length (tables_of c).records) limit r.limited,
        le-leb (length (tables_of c).records) (m.records / record_width) (omega (arith, r.records)),
        le-leb (length (tables_of c).handlers) (m.handlers / 4) (omega (arith, r.handlers)),
        le-leb (length (tables_of c).pool) (m.pool / 3) (omega (arith, r.pool)),
        le-leb (length (tables_of c).symbols) (m.symbols / 2) (omega (arith, r.symbols)),
        le-leb (length (tables_of c).strings) (m.strings / 2) (omega (arith, r.strings)),
        le-leb (length (tables_of c).names) m.names (omega (arith, r.names)),
        le-leb (length (tables_of c).file_names) (m.file_names / 2) (omega (arith, r.file_names)),
        le-leb (length (tables_of c).files) (m.files / 4) (omega (arith, r.files)),
        le-leb (length (tables_of c).lines) (m.lines / 2) (omega (arith, r.lines)),
      )

  -- where no table needs more rows than 32 bits count
  pub fits_room : limit ≤ 4294967295 → Bounds (tables_of c) → fits limit m (used (tables_of c)) ≡ true → Room limit m c
  unfolding fits
  fits_room small b e =
      let t : T (fits limit m (used (tables_of c))) = subst T (sym e) tt in
      let n : length (tables_of c).records ≤ limit = leb→le _ _ (search both depth 12) in
      let records_fit : length (tables_of c).records ≤ m.records / record_width = leb→le _ _ (search both depth 12) in
      let handlers_fit : length (tables_of c).handlers ≤ m.handlers / 4 = leb→le _ _ (search both depth 12) in
      let pool_fit : length (tables_of c).pool ≤ m.pool / 3 = leb→le _ _ (search both depth 12) in
      let symbols_fit : length (tables_of c).symbols ≤ m.symbols / 2 = leb→le _ _ (search both depth 12) in
      let strings_fit : length (tables_of c).strings ≤ m.strings / 2 = leb→le _ _ (search both depth 12) in
      let names_fit : length (tables_of c).names ≤ m.names = leb→le _ _ (search both depth 12) in
      let file_names_fit : length (tables_of c).file_names ≤ m.file_names / 2 = leb→le _ _ (search both depth 12) in
      let files_fit : length (tables_of c).files ≤ m.files / 4 = leb→le _ _ (search both depth 12) in
      let lines_fit : length (tables_of c).lines ≤ m.lines / 2 = leb→le _ _ (search both depth 12) in
      record {
        limited = n;
        records = omega arith;
        handlers = omega (arith, b.handlers);
        pool = omega (arith, b.pool);
        symbols = omega (arith, b.symbols);
        strings = omega (arith, b.strings);
        names = omega (arith, b.names);
        file_names = omega (arith, b.file_names);
        files = omega (arith, b.files);
        lines = omega (arith, b.lines);
      }

  pub fits_false : limit ≤ 4294967295 → Bounds (tables_of c) → (Room limit m c → ⊥) → fits limit m (used (tables_of c)) ≡ false
  fits_false small b n = go (fits limit m (used (tables_of c))) refl
    where
      go : (b : Bool) → fits limit m (used (tables_of c)) ≡ b → fits limit m (used (tables_of c)) ≡ false
      go true e = elim (n (fits_room small b e)) [ ]
      go false e = e
