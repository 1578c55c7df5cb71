-- What the private functions of examination speak of: 19 over handler targets, and a record's parts.
-- Assumes nothing.
use Rattle.std.specs.Prelude.{ℕ, ◌/◌, List, length}
use Rattle.format.specs.Bytes.{refuse, first}
use Rattle.format.specs.Line.{rising, map_of}
use Rattle.format.specs.Pattern.{begins}
use Rattle.format.specs.Exam.{first_of, exam16, exam32, exam1718}
use Rattle.flags.specs.Flags.{bare}
use Rattle.exam.specs.View.{targets}

-- 19 over handler targets
abbrev pub exam19_of : List ℕ → List ℕ → ℕ
exam19_of c ts = first_of (λ (t : ℕ). refuse 19 (begins c t)) ts

-- the targets of a handler table's rows
abbrev pub targets_of : List ℕ → List ℕ
targets_of hs = targets hs 0 (length hs / 4)

-- a record's examination by a list q, by its parts: its bytes, handler rows and line rows
abbrev pub examine_part : List ℕ → List ℕ → List ℕ → List ℕ → List ℕ → ℕ
examine_part l q c hs ls =
    first (first (first (exam16 c) (exam32 q c)) (exam1718 (bare l c))) (first (exam19_of c (targets_of hs)) (refuse 20 (rising (map_of ls))))
