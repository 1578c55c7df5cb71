-- What the next entry of a map goes by, as a row.
-- Assumes nothing.
use Rattle.format.specs.Rows.{LineRow, line_row}
use Rattle.linemap.specs.declared.Before.{Before}

abbrev pub before_of : Before → LineRow
before_of b = line_row b.pos.0 b.line.0
