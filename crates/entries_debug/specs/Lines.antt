-- The line of an offset in the map that rows of the line table are.
-- Assumes nothing.
use Rattle.std.specs.Prelude.{ℕ, List}
use Rattle.std.proofs.Math.Option.{Option}
use Rattle.format.specs.Bytes.{Answer, bind}
use Rattle.format.specs.Rows.{Range}
use Rattle.format.specs.Lookup.{rows_in, map_in}

abbrev pub line_in : List ℕ → Range → ℕ → Answer (Option ℕ)
line_in lines g p = bind (rows_in 2 lines g) (λ g. map_in lines g p)
