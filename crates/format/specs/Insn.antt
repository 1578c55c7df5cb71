-- Instructions: the 119 opcodes with operand kind, roles and flow, sizes, operands, jump targets, and what fetch answers.
-- Paper 01, 'Fetch and line lookup', 'Examination'; names and kinds are those of insn.rs's ENUM_TABLE and FETCH_TABLE. Paper 02, c): the roles of
-- GETIDX0, SSEND0, SEND0, TDEF and SDEF; b): prefixes.
-- Assumes nothing.
use Rattle.std.specs.Prelude.{ℕ, zero, suc, ◌+◌, ◌-◌, Bool, cond, ◌&&◌, ◌||◌, List, [], ◌∷◌, ltb, leb, eqb, get_or, drop}
use Rattle.format.specs.Bytes.{Answer, ok, refused, has, byte, u16_at, u24_at}

-- operand kinds: B a byte, S two bytes, W three; in the order in which ops.h first uses them
pub data Kind : Type 0 where
  Z BB B BS BSS BBB S W : Kind

-- how many bytes each operand has, where the first operand of B, BB, BBB, BS and BSS has x and the second of BB and BBB y
abbrev pub fields_by : ℕ → ℕ → Kind → List ℕ
fields_by x y Z = []
fields_by x y BB = x ∷ y ∷ []
fields_by x y B = x ∷ []
fields_by x y BS = x ∷ 2 ∷ []
fields_by x y BSS = x ∷ 2 ∷ 2 ∷ []
fields_by x y BBB = x ∷ y ∷ 1 ∷ []
fields_by x y S = 2 ∷ []
fields_by x y W = 3 ∷ []

-- and without a prefix
abbrev pub fields : Kind → List ℕ
fields k = fields_by 1 1 k

abbrev pub total : List ℕ → ℕ
total [] = 0
total (w ∷ ws) = w + total ws

-- the bytes behind the opcode byte
abbrev pub width : Kind → ℕ
width k = total (fields k)

-- what an operand numbers
pub data Role : Type 0 where
  reg pool sym child plain : Role

-- where a run goes on: to the next offset; nowhere; to the jump target; to the next offset or the jump target
pub data Flow : Type 0 where
  on ends jumps may : Flow

-- the opcodes, in the order of their bytes
pub data OpCode : Type 0 where
  NOP MOVE LOADL LOADI LOADINEG LOADI__1 LOADI_0 LOADI_1 LOADI_2 LOADI_3 LOADI_4 LOADI_5 LOADI_6 LOADI_7
      LOADI16 LOADI32 LOADSYM LOADNIL LOADSELF LOADT LOADF GETGV SETGV GETSV SETSV GETIV SETIV GETCV SETCV
      GETCONST SETCONST GETMCNST SETMCNST GETUPVAR SETUPVAR GETIDX GETIDX0 SETIDX JMP JMPIF JMPNOT JMPNIL JMPUW
      EXCEPT RESCUE RAISEIF MATCHERR SSEND SSEND0 SSENDB SEND SEND0 SENDB CALL BLKCALL SUPER ARGARY ENTER KEY_P
      KEYEND KARG RETURN RETURN_BLK RETSELF RETNIL RETTRUE RETFALSE BREAK BLKPUSH ADD ADDI SUB SUBI ADDILV
      SUBILV MUL DIV EQ LT LE GT GE ARRAY ARRAY2 ARYCAT ARYPUSH ARYSPLAT AREF ASET APOST INTERN SYMBOL STRING
      STRCAT HASH HASHADD HASHCAT LAMBDA BLOCK METHOD RANGE_INC RANGE_EXC OCLASS CLASS MODULE EXEC DEF TDEF
      SDEF ALIAS UNDEF SCLASS TCLASS DEBUG ERR EXT1 EXT2 EXT3 STOP : OpCode

-- an opcode's byte
abbrev pub number : OpCode → ℕ
number NOP = 0
number MOVE = 1
number LOADL = 2
number LOADI = 3
number LOADINEG = 4
number LOADI__1 = 5
number LOADI_0 = 6
number LOADI_1 = 7
number LOADI_2 = 8
number LOADI_3 = 9
number LOADI_4 = 10
number LOADI_5 = 11
number LOADI_6 = 12
number LOADI_7 = 13
number LOADI16 = 14
number LOADI32 = 15
number LOADSYM = 16
number LOADNIL = 17
number LOADSELF = 18
number LOADT = 19
number LOADF = 20
number GETGV = 21
number SETGV = 22
number GETSV = 23
number SETSV = 24
number GETIV = 25
number SETIV = 26
number GETCV = 27
number SETCV = 28
number GETCONST = 29
number SETCONST = 30
number GETMCNST = 31
number SETMCNST = 32
number GETUPVAR = 33
number SETUPVAR = 34
number GETIDX = 35
number GETIDX0 = 36
number SETIDX = 37
number JMP = 38
number JMPIF = 39
number JMPNOT = 40
number JMPNIL = 41
number JMPUW = 42
number EXCEPT = 43
number RESCUE = 44
number RAISEIF = 45
number MATCHERR = 46
number SSEND = 47
number SSEND0 = 48
number SSENDB = 49
number SEND = 50
number SEND0 = 51
number SENDB = 52
number CALL = 53
number BLKCALL = 54
number SUPER = 55
number ARGARY = 56
number ENTER = 57
number KEY_P = 58
number KEYEND = 59
number KARG = 60
number RETURN = 61
number RETURN_BLK = 62
number RETSELF = 63
number RETNIL = 64
number RETTRUE = 65
number RETFALSE = 66
number BREAK = 67
number BLKPUSH = 68
number ADD = 69
number ADDI = 70
number SUB = 71
number SUBI = 72
number ADDILV = 73
number SUBILV = 74
number MUL = 75
number DIV = 76
number EQ = 77
number LT = 78
number LE = 79
number GT = 80
number GE = 81
number ARRAY = 82
number ARRAY2 = 83
number ARYCAT = 84
number ARYPUSH = 85
number ARYSPLAT = 86
number AREF = 87
number ASET = 88
number APOST = 89
number INTERN = 90
number SYMBOL = 91
number STRING = 92
number STRCAT = 93
number HASH = 94
number HASHADD = 95
number HASHCAT = 96
number LAMBDA = 97
number BLOCK = 98
number METHOD = 99
number RANGE_INC = 100
number RANGE_EXC = 101
number OCLASS = 102
number CLASS = 103
number MODULE = 104
number EXEC = 105
number DEF = 106
number TDEF = 107
number SDEF = 108
number ALIAS = 109
number UNDEF = 110
number SCLASS = 111
number TCLASS = 112
number DEBUG = 113
number ERR = 114
number EXT1 = 115
number EXT2 = 116
number EXT3 = 117
number STOP = 118

-- an opcode with its operand kind, a role for each operand, and where a run goes on
pub data Row : Type 0 where
  op : OpCode → Kind → List Role → Flow → Row

abbrev pub name : Row → OpCode
name (op n k rs f) = n

abbrev pub kind : Row → Kind
kind (op n k rs f) = k

abbrev pub roles : Row → List Role
roles (op n k rs f) = rs

abbrev pub flow : Row → Flow
flow (op n k rs f) = f

unfoldable pub table : List Row
table =
    op NOP Z [] on ∷  -- 0
    op MOVE BB (reg ∷ reg ∷ []) on ∷  -- 1
    op LOADL BB (reg ∷ pool ∷ []) on ∷  -- 2
    op LOADI BB (reg ∷ plain ∷ []) on ∷  -- 3
    op LOADINEG BB (reg ∷ plain ∷ []) on ∷  -- 4
    op LOADI__1 B (reg ∷ []) on ∷  -- 5
    op LOADI_0 B (reg ∷ []) on ∷  -- 6
    op LOADI_1 B (reg ∷ []) on ∷  -- 7
    op LOADI_2 B (reg ∷ []) on ∷  -- 8
    op LOADI_3 B (reg ∷ []) on ∷  -- 9
    op LOADI_4 B (reg ∷ []) on ∷  -- 10
    op LOADI_5 B (reg ∷ []) on ∷  -- 11
    op LOADI_6 B (reg ∷ []) on ∷  -- 12
    op LOADI_7 B (reg ∷ []) on ∷  -- 13
    op LOADI16 BS (reg ∷ plain ∷ []) on ∷  -- 14
    op LOADI32 BSS (reg ∷ plain ∷ plain ∷ []) on ∷  -- 15
    op LOADSYM BB (reg ∷ sym ∷ []) on ∷  -- 16
    op LOADNIL B (reg ∷ []) on ∷  -- 17
    op LOADSELF B (reg ∷ []) on ∷  -- 18
    op LOADT B (reg ∷ []) on ∷  -- 19
    op LOADF B (reg ∷ []) on ∷  -- 20
    op GETGV BB (reg ∷ sym ∷ []) on ∷  -- 21
    op SETGV BB (reg ∷ sym ∷ []) on ∷  -- 22
    op GETSV BB (reg ∷ sym ∷ []) on ∷  -- 23
    op SETSV BB (reg ∷ sym ∷ []) on ∷  -- 24
    op GETIV BB (reg ∷ sym ∷ []) on ∷  -- 25
    op SETIV BB (reg ∷ sym ∷ []) on ∷  -- 26
    op GETCV BB (reg ∷ sym ∷ []) on ∷  -- 27
    op SETCV BB (reg ∷ sym ∷ []) on ∷  -- 28
    op GETCONST BB (reg ∷ sym ∷ []) on ∷  -- 29
    op SETCONST BB (reg ∷ sym ∷ []) on ∷  -- 30
    op GETMCNST BB (reg ∷ sym ∷ []) on ∷  -- 31
    op SETMCNST BB (reg ∷ sym ∷ []) on ∷  -- 32
    op GETUPVAR BBB (reg ∷ plain ∷ plain ∷ []) on ∷  -- 33
    op SETUPVAR BBB (reg ∷ plain ∷ plain ∷ []) on ∷  -- 34
    op GETIDX B (reg ∷ []) on ∷  -- 35
    op GETIDX0 BB (reg ∷ reg ∷ []) on ∷  -- 36
    op SETIDX B (reg ∷ []) on ∷  -- 37
    op JMP S (plain ∷ []) jumps ∷  -- 38
    op JMPIF BS (reg ∷ plain ∷ []) may ∷  -- 39
    op JMPNOT BS (reg ∷ plain ∷ []) may ∷  -- 40
    op JMPNIL BS (reg ∷ plain ∷ []) may ∷  -- 41
    op JMPUW S (plain ∷ []) jumps ∷  -- 42
    op EXCEPT B (reg ∷ []) on ∷  -- 43
    op RESCUE BB (reg ∷ reg ∷ []) on ∷  -- 44
    op RAISEIF B (reg ∷ []) on ∷  -- 45
    op MATCHERR B (reg ∷ []) on ∷  -- 46
    op SSEND BBB (reg ∷ sym ∷ plain ∷ []) on ∷  -- 47
    op SSEND0 BB (reg ∷ sym ∷ []) on ∷  -- 48
    op SSENDB BBB (reg ∷ sym ∷ plain ∷ []) on ∷  -- 49
    op SEND BBB (reg ∷ sym ∷ plain ∷ []) on ∷  -- 50
    op SEND0 BB (reg ∷ sym ∷ []) on ∷  -- 51
    op SENDB BBB (reg ∷ sym ∷ plain ∷ []) on ∷  -- 52
    op CALL Z [] ends ∷  -- 53
    op BLKCALL BB (reg ∷ plain ∷ []) on ∷  -- 54
    op SUPER BB (reg ∷ plain ∷ []) on ∷  -- 55
    op ARGARY BS (reg ∷ plain ∷ []) on ∷  -- 56
    op ENTER W (plain ∷ []) on ∷  -- 57
    op KEY_P BB (reg ∷ sym ∷ []) on ∷  -- 58
    op KEYEND Z [] on ∷  -- 59
    op KARG BB (reg ∷ sym ∷ []) on ∷  -- 60
    op RETURN B (reg ∷ []) ends ∷  -- 61
    op RETURN_BLK B (reg ∷ []) ends ∷  -- 62
    op RETSELF Z [] ends ∷  -- 63
    op RETNIL Z [] ends ∷  -- 64
    op RETTRUE Z [] ends ∷  -- 65
    op RETFALSE Z [] ends ∷  -- 66
    op BREAK B (reg ∷ []) ends ∷  -- 67
    op BLKPUSH BS (reg ∷ plain ∷ []) on ∷  -- 68
    op ADD B (reg ∷ []) on ∷  -- 69
    op ADDI BB (reg ∷ plain ∷ []) on ∷  -- 70
    op SUB B (reg ∷ []) on ∷  -- 71
    op SUBI BB (reg ∷ plain ∷ []) on ∷  -- 72
    op ADDILV BBB (reg ∷ plain ∷ plain ∷ []) on ∷  -- 73
    op SUBILV BBB (reg ∷ plain ∷ plain ∷ []) on ∷  -- 74
    op MUL B (reg ∷ []) on ∷  -- 75
    op DIV B (reg ∷ []) on ∷  -- 76
    op EQ B (reg ∷ []) on ∷  -- 77
    op LT B (reg ∷ []) on ∷  -- 78
    op LE B (reg ∷ []) on ∷  -- 79
    op GT B (reg ∷ []) on ∷  -- 80
    op GE B (reg ∷ []) on ∷  -- 81
    op ARRAY BB (reg ∷ plain ∷ []) on ∷  -- 82
    op ARRAY2 BBB (reg ∷ reg ∷ plain ∷ []) on ∷  -- 83
    op ARYCAT B (reg ∷ []) on ∷  -- 84
    op ARYPUSH BB (reg ∷ plain ∷ []) on ∷  -- 85
    op ARYSPLAT B (reg ∷ []) on ∷  -- 86
    op AREF BBB (reg ∷ reg ∷ plain ∷ []) on ∷  -- 87
    op ASET BBB (reg ∷ reg ∷ plain ∷ []) on ∷  -- 88
    op APOST BBB (reg ∷ plain ∷ plain ∷ []) on ∷  -- 89
    op INTERN B (reg ∷ []) on ∷  -- 90
    op SYMBOL BB (reg ∷ pool ∷ []) on ∷  -- 91
    op STRING BB (reg ∷ pool ∷ []) on ∷  -- 92
    op STRCAT B (reg ∷ []) on ∷  -- 93
    op HASH BB (reg ∷ plain ∷ []) on ∷  -- 94
    op HASHADD BB (reg ∷ plain ∷ []) on ∷  -- 95
    op HASHCAT B (reg ∷ []) on ∷  -- 96
    op LAMBDA BB (reg ∷ child ∷ []) on ∷  -- 97
    op BLOCK BB (reg ∷ child ∷ []) on ∷  -- 98
    op METHOD BB (reg ∷ child ∷ []) on ∷  -- 99
    op RANGE_INC B (reg ∷ []) on ∷  -- 100
    op RANGE_EXC B (reg ∷ []) on ∷  -- 101
    op OCLASS B (reg ∷ []) on ∷  -- 102
    op CLASS BB (reg ∷ sym ∷ []) on ∷  -- 103
    op MODULE BB (reg ∷ sym ∷ []) on ∷  -- 104
    op EXEC BB (reg ∷ child ∷ []) on ∷  -- 105
    op DEF BB (reg ∷ sym ∷ []) on ∷  -- 106
    op TDEF BBB (reg ∷ sym ∷ child ∷ []) on ∷  -- 107
    op SDEF BBB (reg ∷ sym ∷ child ∷ []) on ∷  -- 108
    op ALIAS BB (sym ∷ sym ∷ []) on ∷  -- 109
    op UNDEF B (sym ∷ []) on ∷  -- 110
    op SCLASS B (reg ∷ []) on ∷  -- 111
    op TCLASS B (reg ∷ []) on ∷  -- 112
    op DEBUG BBB (plain ∷ plain ∷ plain ∷ []) on ∷  -- 113
    op ERR B (pool ∷ []) ends ∷  -- 114
    op EXT1 Z [] on ∷  -- 115
    op EXT2 Z [] on ∷  -- 116
    op EXT3 Z [] on ∷  -- 117
    op STOP Z [] ends ∷  -- 118
    []

-- the row of an opcode byte. A byte above 118 has none, and counts as one that stands alone, as NOP
unfoldable pub row : ℕ → Row
row b = get_or table b (op NOP Z [] on)

-- "an opcode above 118"
abbrev pub known : ℕ → Bool
known b = ltb b 119

-- "a prefix opcode (115 to 117)"
abbrev pub prefix : ℕ → Bool
prefix b = leb 115 b && leb b 117

-- What the first byte b of an instruction says of it. "The instruction then begins at its prefix": the bytes before its opcode byte
abbrev pub lead : ℕ → ℕ
lead b = cond (prefix b) 1 0

-- "Prefix 115 widens the first operand of B, BB, BBB, BS and BSS to two bytes. Prefix 116 widens the second of BB and BBB. Prefix 117 does
-- both, each where the kind has it. Other operands are unchanged."
abbrev pub widens_first : ℕ → Bool
widens_first b = eqb b 115 || eqb b 117

abbrev pub widens_second : ℕ → Bool
widens_second b = eqb b 116 || eqb b 117

abbrev pub first_width : ℕ → ℕ
first_width b = cond (widens_first b) 2 1

abbrev pub second_width : ℕ → ℕ
second_width b = cond (widens_second b) 2 1

-- how many bytes each operand of an opcode of kind k has
abbrev pub fields_from : ℕ → Kind → List ℕ
fields_from b k = fields_by (first_width b) (second_width b) k

-- "Sizes with the opcode byte", of an opcode without a prefix
abbrev pub size : ℕ → ℕ
size b = suc (width (kind (row b)))

-- the number that an operand of one, two or three bytes holds, high byte first
abbrev pub operand : ℕ → List ℕ → ℕ → ℕ
operand zero c i = 0
operand (suc zero) c i = byte c i
operand (suc (suc zero)) c i = u16_at c i
operand (suc (suc (suc w))) c i = u24_at c i

-- operands of the given widths, from i on
unfoldable pub operands : List ℕ → List ℕ → ℕ → List ℕ
operands [] c i = []
operands (w ∷ ws) c i = operand w c i ∷ operands ws c (i + w)

-- the opcode byte of the instruction at o of a record's instruction bytes c: behind its prefix, if it has one
unfoldable pub opcode : List ℕ → ℕ → ℕ
opcode c o = byte c (o + lead (byte c o))

abbrev pub row_at : List ℕ → ℕ → Row
row_at c o = row (opcode c o)

abbrev pub fields_at : List ℕ → ℕ → List ℕ
fields_at c o = fields_from (byte c o) (kind (row_at c o))

abbrev pub operands_at : List ℕ → ℕ → List ℕ
operands_at c o = operands (fields_at c o) c (o + lead (byte c o) + 1)

-- how many bytes an instruction has behind its first byte b, where bs is what stands behind b
unfoldable pub rest : ℕ → List ℕ → ℕ
rest b bs = lead b + total (fields_at (b ∷ bs) 0)

-- the offset behind the instruction at o
abbrev pub next : List ℕ → ℕ → ℕ
next c o = o + suc (rest (byte c o) (drop (suc o) c))

-- "Jumps .. go to the next offset plus the signed 16-bit S", the last operand. 65536 is added to stay with natural numbers: a sum below
-- 65536 stands for a place before 0.
abbrev pub signed16 : ℕ → ℕ
signed16 s = cond (ltb s 32768) (s + 65536) s

unfoldable pub last_of : List ℕ → ℕ
last_of [] = 0
last_of (x ∷ []) = x
last_of (x ∷ y ∷ l) = last_of (y ∷ l)

unfoldable pub jump : List ℕ → ℕ → ℕ
jump c o = next c o + signed16 (last_of (operands_at c o))

unfoldable pub target : List ℕ → ℕ → ℕ
target c o = jump c o - 65536

-- a fetched instruction: its operand kind and its operands
pub record Insn : Type 0 where
  pub kind : Kind
  pub operands : List ℕ

abbrev pub insn : Kind → List ℕ → Insn
insn k vs = record { kind = k; operands = vs }

-- fetch by operand kind: "24: fetch on too few bytes"
unfoldable pub fetch_as : Kind → List ℕ → Answer Insn
fetch_as k c = cond (has c 0 (suc (width k))) (ok (insn k (operands (fields k) c 1))) (refused 24)

-- "Fetch: empty is 24, then 23, then 24."
unfoldable pub fetch : List ℕ → Answer Insn
fetch c = cond (has c 0 1) (cond (known (byte c 0)) (fetch_as (kind (row (byte c 0))) c) (refused 23)) (refused 24)
