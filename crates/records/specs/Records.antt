-- Record rows as structs: what the words of a record table say of the first rows.
-- Assumes nothing.
use Rattle.std.specs.Prelude.{ℕ, List}
use Rattle.format.specs.Line.{rows_from}
use Rattle.records_row.specs.declared.Record.{Record}
use Rattle.records_row.specs.Row.{row_at}

-- the first n rows of a record table
abbrev pub rows_of : List ℕ → ℕ → List Record
rows_of t n = rows_from (row_at t) 0 n
