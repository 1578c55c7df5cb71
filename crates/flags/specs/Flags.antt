-- The tests of an instruction, its flag, and what flags say of a record: a record of which only the bytes and the counts matter.
-- Assumes nothing.
use Rattle.std.specs.Prelude.{ℕ, zero, suc, ◌+◌, ◌-◌, ◌*◌, ◌≤◌, ◌<◌, ◌≡◌, Bool, true, false, cond, ◌&&◌, ◌||◌, List, [], leb, ltb, eqb, length, get_or, drop}
use Rattle.format.specs.Bytes.{Answer, ok, refused, byte, u16_at, refuse}
use Rattle.format.specs.Insn.{flow, prefix, first_width, second_width, opcode, row_at, rest, next, signed16}
use Rattle.format.specs.Pattern.{Record, begins}
use Rattle.format.specs.Exam.{bounded, at16}
use Rattle.flags.specs.declared.Tested.{Tested}
use Rattle.opcode.specs.Digits.{flag_inside, flag_last, end_by, size_in, first_in, second_in, inside_in, last_in, first_byte_in, second_byte_in, third_in, form_in, digits_of}

-- what operands have to stay below, by the number of their role: 65536 where it is plain, less by one and by two where registers behind it count
pub record Limits (l : List ℕ) : Type 0 where
  pub seven : length l ≡ 7
  pub plain_limit : get_or l 0 0 ≡ 65536
  pub pair_limit : get_or l 5 0 ≡ get_or l 1 0 - 1
  pub triple_limit : get_or l 6 0 ≡ get_or l 1 0 - 2

abbrev pub bare : List ℕ → List ℕ → Record
bare l c =
    record { nregs = get_or l 1 0; rlen = get_or l 4 0; npool = get_or l 2 0; nsyms = get_or l 3 0; code = c; handlers = []; lines = [] }

-- d: the digits of the opcode of the instruction at o
pub record Looked (c : List ℕ) (o d : ℕ) : Type 0 where
  pub inside : o < length c
  pub digits : d ≡ digits_of (opcode c o)

-- and that instruction has no prefix and is whole
pub record Alone (c : List ℕ) (o d : ℕ) : Type 0 where
  pub looked : Looked c o d
  pub no_prefix : prefix (byte c o) ≡ false
  pub next_is : o + size_in d ≡ next c o
  pub whole : next c o ≤ length c

-- or has a prefix and is whole, of n bytes
pub record Behind (c : List ℕ) (o n d : ℕ) : Type 0 where
  pub looked : Looked c o d
  pub prefixed : prefix (byte c o) ≡ true
  pub next_is : o + n ≡ next c o
  pub whole : next c o ≤ length c

-- the instruction at o meets neither 16 nor 25
pub record Entire (c : List ℕ) (o : ℕ) : Type 0 where
  pub inside : o < length c
  pub none : at16 c o ≡ 0

-- how many bytes the instruction at o has
abbrev pub size_at : List ℕ → ℕ → ℕ
size_at c o = suc (rest (byte c o) (drop (suc o) c))

-- how many an opcode of the digits d has behind the prefix p, the prefix with them
abbrev pub size_behind : ℕ → ℕ → ℕ
size_behind p d = 1 + size_in d + (first_width p - 1) * first_byte_in d + (second_width p - 1) * second_byte_in d

-- d has numbers of limits where operands are tested
pub record Numbered (d : ℕ) : Type 0 where
  pub first : first_in d < 7
  pub second : second_in d < 7
  pub third : third_in d < 7

-- v is below the limit of number x, if that is not a plain operand's
abbrev pub within : List ℕ → ℕ → ℕ → Bool
within l x v = eqb x 0 || ltb v (get_or l x 0)

-- 17 by the digits d of an opcode and the operands a, b and e: each below its limit, and the last register that is named below nregs
abbrev pub below_by : List ℕ → ℕ → ℕ → ℕ → ℕ → Bool
below_by l d a b e =
    within l (first_in d) a && (within l (second_in d) b && (within l (third_in d) e && leb (end_by (form_in d) a b e) (get_or l 1 0)))

-- the flag of the instruction at o: 2 where it meets 17
unfoldable pub flag_at : Record → ℕ → ℕ
flag_at r o =
    cond
    (bounded r o)
    (cond (ltb (next r.code o) (length r.code)) (flag_inside (flow (row_at r.code o))) (flag_last (flow (row_at r.code o))))
    2

-- and by what 17 answers, by whether the next offset is inside the record, and by the digits of the opcode
abbrev pub flag_by : Bool → Bool → ℕ → ℕ
flag_by below inside d = cond below (cond inside (inside_in d) (last_in d)) 2

-- what the tests of an instruction find: its size and its flag
pub record Found : Type 0 where
  pub size : ℕ
  pub flag : ℕ

abbrev pub found : ℕ → ℕ → Found
found n f = record { size = n; flag = f }

abbrev pub found_of : Tested → Found
found_of t = found t.size t.flag

-- and what those of the instruction at o answer: that, or the number that it meets of 16 and 25
unfoldable pub tested_at : List ℕ → List ℕ → ℕ → Answer Found
tested_at l c o = cond (eqb (at16 c o) 0) (ok (found (size_at c o) (flag_at (bare l c) o))) (refused (at16 c o))

-- what 17 and 18 answer at an instruction by its flag; t: an instruction begins at its target
unfoldable pub judged : ℕ → Bool → ℕ
judged zero t = 0
judged (suc zero) t = 0
judged (suc (suc zero)) t = 17
judged (suc (suc (suc zero))) t = refuse 18 t
judged (suc (suc (suc (suc v)))) t = 18

-- a byte's flag is 0 exactly where no instruction begins
pub record Marked (c flags : List ℕ) : Type 0 where
  pub room : length c ≤ length flags
  pub starts : (o : ℕ) → o < length c → ltb 0 (get_or flags o 0) ≡ begins c o

-- and that of the instruction otherwise
abbrev pub told_at : List ℕ → List ℕ → ℕ → ℕ
told_at l c o = cond (begins c o) (flag_at (bare l c) o) 0

pub record Flagged (l c flags : List ℕ) : Type 0 where
  pub room : length c ≤ length flags
  pub told : (o : ℕ) → o < length c → get_or flags o 0 ≡ told_at l c o

-- 18 by the next offset n: a jump's operand is the two bytes before n
abbrev pub jump_from : List ℕ → ℕ → ℕ
jump_from c n = n + signed16 (u16_at c (n - 2))

unfoldable pub lands_from : List ℕ → ℕ → Bool
lands_from c n = leb 65536 (jump_from c n) && begins c (jump_from c n - 65536)
