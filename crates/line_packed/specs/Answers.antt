-- A packed number and an entry of a packed map, each with the place after it, as the definitions have them.
-- Assumes nothing.
use Rattle.std.specs.Prelude.{ℕ}
use Rattle.format.specs.Bytes.{Step, step}
use Rattle.format.specs.Rows.{LineRow, line_row}
use Rattle.line_packed.specs.declared.Packed.{Packed}
use Rattle.line_packed.specs.declared.Entry.{Entry}

abbrev pub packed_of : Packed → Step ℕ
packed_of p = step p.value p.next

abbrev pub entry_of : Entry → Step LineRow
entry_of e = step (line_row e.pos.0 e.line.0) e.next
