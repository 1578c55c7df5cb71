-- The printed step list. Paper 02, l): "One line for each instruction and no other, records and offsets ascending: record, offset, opcode byte (the one
-- behind a prefix), unsigned operands joined by commas or `-`, line or `-`, parted by one blank. .. A refused file gives one line only, as `refused 5`."
-- Assumes nothing.
use Rattle.std.specs.Prelude.{ℕ, zero, suc, ◌+◌, ◌*◌, ◌/◌, ◌%◌, cond, List, [], ◌∷◌, ◌++◌, map, ltb}
use Rattle.std.proofs.Math.Option.{Option, none, some}
use Rattle.format.specs.Bytes.{on_answer}
use Rattle.format.specs.Rows.{record_width}
use Rattle.format.specs.Allowance.{desktop}
use Rattle.format.specs.Load.{Nine, gathered}
use Rattle.format.specs.Insn.{opcode, operands_at, rest}
use Rattle.format.specs.Line.{line_at}
use Rattle.format.specs.Pattern.{Record, Pattern, pattern_of}
use Rattle.format.specs.Permitted.{everything}
use Rattle.format.specs.Exam.{examining}

-- bytes of text, one piece behind another
infixr 5 ◌then◌
abbrev pub ◌then◌ : List ℕ → List ℕ → List ℕ
a then b = a ++ b

-- The characters, in ASCII.
abbrev pub feed : ℕ
feed = 10

abbrev pub blank : ℕ
blank = 32

abbrev pub comma : ℕ
comma = 44

abbrev pub dash : ℕ
dash = 45

abbrev pub digit : ℕ → ℕ
digit d = 48 + d

-- a number in base ten, without a zero in front; so many digits at most
unfoldable pub digits : ℕ → ℕ → List ℕ
digits zero n = []
digits (suc k) n = cond (ltb n 10) [] (digits k (n / 10)) ++ digit (n % 10) ∷ []

-- and as many as it has: no number has more digits than one more than itself
unfoldable pub decimal : ℕ → List ℕ
decimal n = digits (suc n) n

-- "unsigned operands joined by commas or `-`"
unfoldable pub further : List ℕ → List ℕ
further [] = []
further (v ∷ vs) = comma ∷ decimal v then further vs

unfoldable pub operand_text : List ℕ → List ℕ
operand_text [] = dash ∷ []
operand_text (v ∷ vs) = decimal v then further vs

-- "line or `-`"
unfoldable pub line_text : Option ℕ → List ℕ
line_text none = dash ∷ []
line_text (some l) = decimal l

-- the line of the instruction at o of record r, "parted by one blank"; "the opcode byte (the one behind a prefix)". Each line ends in one line feed.
unfoldable pub step_text : ℕ → Record → ℕ → List ℕ
step_text r x o =
    decimal r
    then blank ∷ decimal o
    then blank ∷ decimal (opcode x.code o)
    then blank ∷ operand_text (operands_at x.code o)
    then blank ∷ line_text (line_at x.lines o)
    then feed ∷ []

-- the offsets where instructions begin, ascending, reading from 0; `left` as in `reach`, o the offset of the list's first byte
unfoldable pub beginnings : List ℕ → ℕ → ℕ → List ℕ
beginnings [] left o = []
beginnings (b ∷ bs) zero o = o ∷ beginnings bs (rest b bs) (suc o)
beginnings (b ∷ bs) (suc left) o = beginnings bs left (suc o)

-- a place where an instruction begins: a record's number, the record, and the offset
pub record Place : Type 0 where
  pub rec : ℕ
  pub of : Record
  pub at : ℕ

abbrev pub place : ℕ → Record → ℕ → Place
place r x o = record { rec = r; of = x; at = o }

-- those of a record, and of records in turn, the first of which has number r
abbrev pub record_places : ℕ → Record → List Place
record_places r x = map (place r x) (beginnings x.code 0 0)

unfoldable pub places : ℕ → List Record → List Place
places r [] = []
places r (x ∷ xs) = record_places r x ++ places (suc r) xs

-- "One line for each instruction and no other, records and offsets ascending"
abbrev pub place_text : Place → List ℕ
place_text p = step_text p.rec p.of p.at

abbrev pub text_of : List Place → List ℕ
text_of ps = gathered place_text ps

abbrev pub list_of : Pattern → List ℕ
list_of p = text_of (places 0 p)

-- "A refused file gives one line only, as `refused 5`": the word, a blank and the number
unfoldable pub refused_text : ℕ → List ℕ
refused_text e = 114 ∷ 101 ∷ 102 ∷ 117 ∷ 115 ∷ 101 ∷ 100 ∷ blank ∷ decimal e then feed ∷ []

-- "It lends 1,024 record rows, 8,192 of each other kind"
abbrev pub lent : Nine
lent =
    record {
      records = 1024 * record_width;
      handlers = 8192 * 4;
      pool = 8192 * 3;
      symbols = 8192 * 2;
      strings = 8192 * 2;
      names = 8192;
      file_names = 8192 * 2;
      files = 8192 * 4;
      lines = 8192 * 2;
    }

-- "A crate above the loader examines a file .. and prints its steps", under "the desktop's allowance"; n): "the step list permits all". In tables of any sizes,
unfoldable pub list_in : Nine → List ℕ → List ℕ
list_in m f = on_answer (examining f m desktop everything) (λ c. list_of (pattern_of f c)) refused_text

-- and in those that it lends
abbrev pub step_list : List ℕ → List ℕ
step_list f = list_in lent f
