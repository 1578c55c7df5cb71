-- A text and a range of rows as the definitions have them.
-- Assumes nothing.
use Rattle.format.specs.Rows as format
use Rattle.ranges.specs.declared.Range.{Range}
use Rattle.ranges.specs.declared.Text.{Text}

abbrev pub text_of : Text → format.TextRow
text_of t = format.text_row t.place t.length

abbrev pub range_of : Range → format.Range
range_of g = record { first = g.first; number = g.number }
