-- What a record view shows.
-- Assumes nothing.
use Rattle.std.specs.Prelude.{ℕ, ◌+◌, cond, List, [], leb, length, take, drop}
use Rattle.format.specs.Bytes.{Answer}
use Rattle.format.specs.Insn.{Insn, fetch}
use Rattle.view.specs.declared.RecordView.{RecordView}

-- the size bytes at a place of the file, and none where they pass its end
unfoldable pub part_of : List ℕ → ℕ → ℕ → List ℕ
part_of f place size = cond (leb (place + size) (length f)) (take size (drop place f)) []

abbrev pub shown : RecordView → List ℕ
shown v = part_of v.file.now v.place v.size

-- the instruction at an offset of such bytes
abbrev pub fetch_in : List ℕ → ℕ → Answer Insn
fetch_in code at = fetch (drop at code)
