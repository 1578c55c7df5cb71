-- A handler, and a name if there is one, as the definitions have them.
-- Assumes nothing.
use Rattle.std.specs.Prelude.{Option, Some, None}
use Rattle.std.proofs.Math.Option as math
use Rattle.format.specs.Rows.{HandlerRow, TextRow}
use Rattle.ranges.specs.declared.Text.{Text}
use Rattle.ranges.specs.Answers.{text_of}
use Rattle.entries.specs.declared.Handler.{Handler}

abbrev pub handler_of : Handler → HandlerRow
handler_of h = record { kind = h.kind; begin = h.begin; end = h.end; target = h.target }

abbrev pub name_of : Option Text → math.Option TextRow
name_of (Some t) = math.some (text_of t)
name_of None = math.none
