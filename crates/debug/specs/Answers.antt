-- What this crate reads, as the definitions have it.
-- Assumes nothing.
use Rattle.std.specs.Prelude.{ℕ, Option, Some, None}
use Rattle.std.proofs.Math.Option as math
use Rattle.format.specs.Debug as format
use Rattle.line.specs.declared.Pos.{Pos}
use Rattle.debug.specs.declared.FileHead.{FileHead}

-- the start of the file before; a record's first file has none before it
abbrev pub start_of : Option Pos → math.Option ℕ
start_of (Some pos) = math.some pos.0
start_of None = math.none

-- a file's head, and the place behind it
abbrev pub file_head_of : FileHead → format.FileHead
file_head_of h = record { start = h.start.0; name = h.name; count = h.count; kind = h.kind; next = h.next }
