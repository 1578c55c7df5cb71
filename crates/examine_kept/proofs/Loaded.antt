-- What a load that is not refused gives examination: the tables fit, and the pattern that they hold is the file's.
-- Assumes nothing.
use Prim.Native.Nat.{ℕ}
use native.Mathlib.Omega.{arith}
use mathlib.Core.Path.{◌≡◌, refl}
use mathlib.Core.List.{List}
use lib.ListN.{length}
use Rattle.format.specs.Bytes.{ok}
use Rattle.format.specs.Rows.{record_width, record_words}
use Rattle.format.specs.Allowance.{Allowance}
use Rattle.format.specs.File.{Content}
use Rattle.format.specs.Load.{Nine, records_of, tables_of, words_of, loading}
use Rattle.format.specs.Pattern.{pattern_of}
use Rattle.format.proofs.Places.{records_length}
use Rattle.layout.proofs.Inside.{loading_inside, loading_held}
use Rattle.layout.proofs.Back.{table_length}
use Rattle.layout.proofs.Pattern.{pattern_said, row_inside}
use Rattle.exam.specs.View.{pattern_at, Fits}

module _ (f : List ℕ) (m : Nine) (c : Content) where
  pub pattern_is : let w = words_of m (tables_of c) in pattern_at f w.records w.handlers w.lines (length (records_of c)) ≡ pattern_of f c
  pattern_is = pattern_said f m c

  pub tables_fit : (allow : Allowance) → loading f m allow ≡ ok c → let w = words_of m (tables_of c) in Fits f w.records w.handlers w.lines (length (records_of c))
  tables_fit allow l =
      let n = records_length c in
      let room = loading_held f m allow c l in
      let words = table_length record_words record_width (λ _. refl) (omega arith) m.records (tables_of c).records room.records in
      record {
        few = omega (arith, n, room.few);
        held = omega (arith, n, room.records, words);
        small = (loading_inside f m allow c l).small;
        each = λ i h. let x = row_inside f m allow c l i h in record { inside = x.inside; bytes = x.bytes; handling = x.handling; lined = x.lined };
      }
