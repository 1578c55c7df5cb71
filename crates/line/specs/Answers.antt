-- A line, if there is one, as the definitions have it.
-- Assumes nothing.
use Rattle.std.specs.Prelude.{ℕ, Option, Some, None}
use Rattle.std.proofs.Math.Option as math
use Rattle.line.specs.declared.Line.{Line}

abbrev pub line_of : Option Line → math.Option ℕ
line_of (Some line) = math.some line.0
line_of None = math.none
