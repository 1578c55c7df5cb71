-- Examination: conditions 15 to 20 of paper 01, 17 widened by paper 02 j), 25 of b) and 32 of n), and the examination that answers the first that is met
-- in the papers' order; i) that of a single record. It is for one list q of permitted opcodes.
-- Assumes nothing.
use Rattle.std.specs.Prelude.{ℕ, zero, suc, ◌<◌, ◌≡◌, ◌⊎◌, Bool, true, false, ◌&&◌, ◌||◌, not, cond, List, [], ◌∷◌, T, ltb, leb, eqb, length, get_or}
use Rattle.format.specs.Bytes.{Answer, ok, refused, bind, refuse, first, byte}
use Rattle.format.specs.Allowance.{Allowance}
use Rattle.format.specs.File.{Content}
use Rattle.format.specs.Load.{Nine, Loaded, loading, laid}
use Rattle.format.specs.Insn.{Role, reg, pool, sym, child, plain, Flow, on, ends, jumps, may, roles, flow, known, prefix, opcode, row_at, operands_at, rest, next}
use Rattle.format.specs.Registers.{Range, registers_at, Names}
use Rattle.format.specs.Line.{entry, rising}
use Rattle.format.specs.Tree.{Whole, whole}
use Rattle.format.specs.Permitted.{permitted_at}
use Rattle.format.specs.Pattern.{Record, Pattern, pattern_of, ilen, clen, rec_at, rlens, begins, lands}

-- The tests at an instruction.

-- 25: "a prefix is last in its record or another prefix follows it"
unfoldable pub stray : List ℕ → ℕ → Bool
stray c o = prefix (byte c o) && (leb (length c) (suc o) || prefix (byte c (suc o)))

-- 16: a known opcode, whole inside the record
unfoldable pub readable : List ℕ → ℕ → Bool
readable c o = known (opcode c o) && leb (next c o) (length c)

-- 17: an operand is "below nregs, pool count, symbol count or rlen by its role"
abbrev pub Below : Record → Role → ℕ → Type 0
Below r reg v = v < r.nregs
Below r pool v = v < r.npool
Below r sym v = v < r.nsyms
Below r child v = v < r.rlen
Below r plain v = Unit {0}

unfoldable pub below : Record → Role → ℕ → Bool
below r reg v = ltb v r.nregs
below r pool v = ltb v r.npool
below r sym v = ltb v r.nsyms
below r child v = ltb v r.rlen
below r plain v = true

unfoldable pub all_below : Record → List Role → List ℕ → Bool
all_below r [] vs = true
all_below r (x ∷ xs) [] = true
all_below r (x ∷ xs) (v ∷ vs) = below r x v && all_below r xs vs

unfoldable pub operands_below : Record → ℕ → Bool
operands_below r o = all_below r (roles (row_at r.code o)) (operands_at r.code o)

-- j): "each register that insn.rs's comments name" is below nregs
unfoldable pub range_below : Record → Range → Bool
range_below r x = leb x.upto x.from || leb x.upto r.nregs

-- "Refusal 17 widens so"
unfoldable pub bounded : Record → ℕ → Bool
bounded r o = operands_below r o && range_below r (registers_at r.code o)

-- 18: an instruction begins where the run can go on; n: one begins at the next offset; t: one begins at the target
abbrev pub leads : Flow → Bool → Bool → Bool
leads on n t = n
leads ends n t = true
leads jumps n t = t
leads may n t = n && t

unfoldable pub follows : List ℕ → ℕ → Bool
follows c o = leads (flow (row_at c o)) (begins c (next c o)) (lands c o)

-- The conditions. First of one record:

-- "16: in a record, reading from 0, an opcode above 118, .. a cut instruction, or ilen 0." "Refusal 16 no longer covers prefixes": a prefix that
-- meets 25 does not meet 16.
pub record Unreadable (r : Record) : Type 0 where
  pub at : ℕ
  pub starts : T (begins r.code at)
  pub paired : T (not (stray r.code at))
  pub fails : T (not (readable r.code at))

abbrev pub Bad16 : Record → Type 0
Bad16 r = (ilen r ≡ 0) ⊎ Unreadable r

-- "25 when a prefix is last in its record or another prefix follows it"
pub record Bad25 (r : Record) : Type 0 where
  pub at : ℕ
  pub starts : T (begins r.code at)
  pub alone : T (stray r.code at)

-- "17: an operand not below nregs, pool count, symbol count or rlen by its role",
pub record HighOperand (r : Record) (o : ℕ) : Type 0 where
  pub i : ℕ
  pub given : i < length (roles (row_at r.code o))
  pub above : ¬ Below r (get_or (roles (row_at r.code o)) i plain) (get_or (operands_at r.code o) i 0)

-- and by j) a register named that is not below nregs
pub record HighRegister (r : Record) (o : ℕ) : Type 0 where
  pub register : ℕ
  pub named : Names r.code o register
  pub above : ¬ (register < r.nregs)

pub record Bad17 (r : Record) : Type 0 where
  pub at : ℕ
  pub starts : T (begins r.code at)
  pub high : HighOperand r at ⊎ HighRegister r at

-- "18: a jump target, or the next offset of a neither ending nor JMP nor JMPUW instruction, where none begins."
abbrev pub has_next : Flow → Bool
has_next on = true
has_next ends = false
has_next jumps = false
has_next may = true

abbrev pub has_target : Flow → Bool
has_target on = false
has_target ends = false
has_target jumps = true
has_target may = true

pub record Bad18 (r : Record) : Type 0 where
  pub at : ℕ
  pub starts : T (begins r.code at)
  pub lost : (T (has_next (flow (row_at r.code at))) × T (not (begins r.code (next r.code at))))
      ⊎ (T (has_target (flow (row_at r.code at))) × T (not (lands r.code at)))

-- "19: a handler target where none begins."
pub record Bad19 (r : Record) : Type 0 where
  pub h : ℕ
  pub given : h < clen r
  pub none_begins : T (not (begins r.code (get_or r.handlers h 0)))

-- "20: a map position below the one before it."
pub record Bad20 (r : Record) : Type 0 where
  pub i : ℕ
  pub given : suc i < length r.lines
  pub falls : (entry r.lines (suc i)).pos < (entry r.lines i).pos

-- "32 when a record holds an opcode not permitted"
pub record Bad32 (q : List ℕ) (r : Record) : Type 0 where
  pub at : ℕ
  pub starts : T (begins r.code at)
  pub forbidden : T (not (permitted_at q r.code at))

-- condition n is met by a record
pub data RecordMeets (q : List ℕ) (r : Record) : ℕ → Type 0 where
  meets16 : Bad16 r → RecordMeets q r 16
  meets17 : Bad17 r → RecordMeets q r 17
  meets18 : Bad18 r → RecordMeets q r 18
  meets19 : Bad19 r → RecordMeets q r 19
  meets20 : Bad20 r → RecordMeets q r 20
  meets25 : Bad25 r → RecordMeets q r 25
  meets32 : Bad32 q r → RecordMeets q r 32

-- i): a "record passes by itself"
abbrev pub RecordPasses : List ℕ → Record → Type 0
RecordPasses q r = (n : ℕ) → ¬ RecordMeets q r n

-- then of a pattern: one of its records is so
pub record Some (P : Record → Type 0) (p : Pattern) : Type 0 where
  pub rec : ℕ
  pub inside : rec < length p
  pub holds : P (rec_at p rec)

-- condition n is met: "15: the tree is not whole", or one that a record meets
pub data Meets (q : List ℕ) (p : Pattern) : ℕ → Type 0 where
  meets15 : ¬ Whole (rlens p) → Meets q p 15
  meets_record : {n : ℕ} → Some (λ (r : Record). RecordMeets q r n) p → Meets q p n

-- a loaded pattern of which "passing then means meeting none of 15 to 20, 25 and 32"
abbrev pub Passes : List ℕ → Pattern → Type 0
Passes q p = (n : ℕ) → ¬ Meets q p n

-- "A file that passes is one that loads in some lent tables and meets none of 15 to 20", 25 and 32; paper 02, h) and n): under an allowance and a list
pub record FilePasses (f : List ℕ) (a : Allowance) (q : List ℕ) : Type 0 where
  pub tables : Nine
  pub content : Content
  pub loads : loading f tables a ≡ ok content
  pub passes : Passes q (pattern_of f content)

-- i): record i of a file passes by itself, under an allowance and a list. What the tree is does not count.
pub record FileRecordPasses (f : List ℕ) (a : Allowance) (q : List ℕ) (i : ℕ) : Type 0 where
  pub tables : Nine
  pub content : Content
  pub loads : loading f tables a ≡ ok content
  pub inside : i < length (pattern_of f content)
  pub passes : RecordPasses q (rec_at (pattern_of f content) i)

-- i): a pattern p was changed to p' in record i alone: "the number of records, every other record's counts, handlers, map and instruction bytes and this
-- record's rlen are as before". Where these stand in a file does not count.
pub record ChangedAlone (i : ℕ) (p p' : Pattern) : Type 0 where
  pub number : length p' ≡ length p
  pub others : (j : ℕ) → j < length p → ¬ (j ≡ i) → rec_at p' j ≡ rec_at p j
  pub children : (rec_at p' i).rlen ≡ (rec_at p i).rlen

-- Examination. Its answer is a number, 0 where nothing is met.

-- the first refusal over the instructions, reading from 0; `left` as in `reach`, o the offset of the list's first byte
unfoldable pub first_at : (ℕ → ℕ) → List ℕ → ℕ → ℕ → ℕ
first_at f [] left o = 0
first_at f (b ∷ bs) zero o = first (f o) (first_at f bs (rest b bs) (suc o))
first_at f (b ∷ bs) (suc left) o = first_at f bs left (suc o)

-- the first refusal over a list
unfoldable pub first_of : (ℕ → ℕ) → List ℕ → ℕ
first_of f [] = 0
first_of f (x ∷ xs) = first (f x) (first_of f xs)

-- "16 over the whole record", and 25 "in 16's place"
abbrev pub at16 : List ℕ → ℕ → ℕ
at16 c o = cond (stray c o) 25 (refuse 16 (readable c o))

unfoldable pub exam16 : List ℕ → ℕ
exam16 c = first (refuse 16 (ltb 0 (length c))) (first_at (at16 c) c 0 0)

-- "32 .. after 16 and 25 over that record, before any 17 there"
abbrev pub at32 : List ℕ → List ℕ → ℕ → ℕ
at32 q c o = refuse 32 (permitted_at q c o)

unfoldable pub exam32 : List ℕ → List ℕ → ℕ
exam32 q c = first_at (at32 q c) c 0 0

-- "17 before 18 at each instruction in turn"
abbrev pub at1718 : Record → ℕ → ℕ
at1718 r o = first (refuse 17 (bounded r o)) (refuse 18 (follows r.code o))

unfoldable pub exam1718 : Record → ℕ
exam1718 r = first_at (at1718 r) r.code 0 0

-- "then 19 over the handlers"
unfoldable pub exam19 : Record → ℕ
exam19 r = first_of (λ (t : ℕ). refuse 19 (begins r.code t)) r.handlers

-- "then 20 over the map"
unfoldable pub exam20 : Record → ℕ
exam20 r = refuse 20 (rising r.lines)

unfoldable pub examine_record : List ℕ → Record → ℕ
examine_record q r = first (exam16 r.code) (first (exam32 q r.code) (first (exam1718 r) (first (exam19 r) (exam20 r))))

unfoldable pub examine_all : List ℕ → List Record → ℕ
examine_all q [] = 0
examine_all q (r ∷ rs) = first (examine_record q r) (examine_all q rs)

-- "Examination tests 15 first, then record by record"
unfoldable pub examine_pattern : List ℕ → Pattern → ℕ
examine_pattern q p = first (refuse 15 (whole (rlens p))) (examine_all q p)

-- what was loaded, where its number is 0
abbrev pub unless_met : ℕ → Content → Answer Content
unless_met n c = cond (eqb n 0) (ok c) (refused n)

unfoldable pub passing : List ℕ → List ℕ → Content → Answer Content
passing q f c = unless_met (examine_pattern q (pattern_of f c)) c

-- "Examination loads the file first."
unfoldable pub examining : List ℕ → Nine → Allowance → List ℕ → Answer Content
examining f m a q = bind (loading f m a) (passing q f)

-- what an examination answers, and what the tables hold afterwards: the rows used, as load does
unfoldable pub examine : List ℕ → Nine → Allowance → List ℕ → Loaded
examine f m a q = laid m (examining f m a q)

-- i): "A call loads the file and examines a single record, without 15. A missing record is 22"
unfoldable pub examine_single : List ℕ → ℕ → Pattern → ℕ
examine_single q i p = cond (ltb i (length p)) (examine_record q (rec_at p i)) 22

unfoldable pub passing_single : List ℕ → ℕ → List ℕ → Content → Answer Content
passing_single q i f c = unless_met (examine_single q i (pattern_of f c)) c

unfoldable pub examining_single : List ℕ → Nine → Allowance → List ℕ → ℕ → Answer Content
examining_single f m a q i = bind (loading f m a) (passing_single q i f)

-- what that call answers; "a refusal leaves the tables as examination's does"
unfoldable pub examine_one : List ℕ → Nine → Allowance → List ℕ → ℕ → Loaded
examine_one f m a q i = laid m (examining_single f m a q i)
