-- Sizes beside ops.h: the operand kinds in that file's order, paper 01's size of each, and what each prefix widens, as lists: a second rendering of the
-- bytes of operands in Insn. Paper 02, e): "Each opcode byte, and each but 115 to 117 behind a prefix, is proved to have paper 01's size, plus one for
-- a prefix and each operand it widens." proofs/Sizes has the computed test that the two agree.
-- Assumes nothing.
use Rattle.std.specs.Prelude.{ℕ, ◌+◌, Bool, ◌&&◌, cond, List, [], ◌∷◌, map, eqb}
use Rattle.format.specs.Bytes.{one_of}
use Rattle.format.specs.Insn.{Kind, Z, BB, B, BS, BSS, BBB, S, W}

-- the kinds by number, "in that file's order": by the first opcode that has them
abbrev pub kind_number : Kind → ℕ
kind_number Z = 0  -- NOP
kind_number BB = 1  -- MOVE
kind_number B = 2  -- LOADI__1
kind_number BS = 3  -- LOADI16
kind_number BSS = 4  -- LOADI32
kind_number BBB = 5  -- GETUPVAR
kind_number S = 6  -- JMP
kind_number W = 7  -- ENTER

-- Paper 01: "Sizes with the opcode byte: Z 1, B 2, BB 3, S 3, BBB 4, BS 4, W 4, BSS 6."
abbrev pub size_of : Kind → ℕ
size_of Z = 1
size_of BB = 3
size_of B = 2
size_of BS = 4
size_of BSS = 6
size_of BBB = 4
size_of S = 3
size_of W = 4

abbrev pub among : List Kind → Kind → Bool
among xs k = one_of (map kind_number xs) (kind_number k)

-- a prefix, and the kinds of which it widens an operand by one byte
pub data Widening : Type 0 where
  widens : ℕ → List Kind → Widening

-- "the first operand of B, BB, BBB, BS and BSS"
abbrev pub have_first : List Kind
have_first = B ∷ BB ∷ BBB ∷ BS ∷ BSS ∷ []

-- "the second of BB and BBB"
abbrev pub have_second : List Kind
have_second = BB ∷ BBB ∷ []

-- "Prefix 115 widens the first operand .. to two bytes. Prefix 116 widens the second .. Prefix 117 does both, each where the kind has it."
unfoldable pub widenings : List Widening
widenings = widens 115 have_first ∷ widens 116 have_second ∷ widens 117 have_first ∷ widens 117 have_second ∷ []

abbrev pub widened_by : List Widening → ℕ → Kind → ℕ
widened_by [] p k = 0
widened_by (widens q ks ∷ l) p k = cond (eqb q p && among ks k) 1 0 + widened_by l p k

-- how many operands of an instruction of kind k the prefix p widens
abbrev pub widened : ℕ → Kind → ℕ
widened p k = widened_by widenings p k

-- "paper 01's size, plus one for a prefix and each operand it widens"
abbrev pub size_behind : ℕ → Kind → ℕ
size_behind p k = size_of k + 1 + widened p k
