-- What is asked of a loaded pattern, case by case.
-- Assumes nothing.
use Rattle.std.specs.Prelude.{ℕ, cond, List, leb, length}
use Rattle.format.specs.Bytes.{Answer, refused}
use Rattle.format.specs.File.{Content}
use Rattle.format.specs.Load.{records_of}
use Rattle.format.specs.Pattern.{Pattern}
use Rattle.format.specs.Exam.{examine_pattern, passing, examine_single, passing_single}
use Rattle.examine_asked.specs.declared.Asked.{Asked}
use Rattle.examine_asked.specs.declared.Asked.TheVariants as asked

-- the number of the refusal that answers it, by a list
abbrev pub examine_asked : Asked → List ℕ → Pattern → ℕ
examine_asked (asked.Whole rows) q p = cond (leb (length p) rows) (examine_pattern q p) 14
examine_asked (asked.Single i) q p = examine_single q i p

-- and what is answered of a file that was loaded
abbrev pub answering : Asked → List ℕ → List ℕ → Content → Answer Content
answering (asked.Whole rows) q f c = cond (leb (length (records_of c)) rows) (passing q f c) (refused 14)
answering (asked.Single i) q f c = passing_single q i f c
