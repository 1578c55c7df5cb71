-- Registers that an instruction names: "each register that insn.rs's comments name, not the first alone". Paper 02, j).
-- Assumes nothing.
use Rattle.std.specs.Prelude.{ℕ, zero, suc, ◌+◌, ◌-◌, ◌*◌, ◌/◌, ◌%◌, ◌≤◌, ◌<◌, ◌≡◌, cond, List, [], ◌∷◌, eqb, length, get_or}
use Rattle.format.specs.Insn.{OpCode, SETMCNST, GETIDX, SETIDX, SSEND, SSENDB, SEND, SENDB, SUPER, ADD, SUB, MUL, DIV, EQ, LT, LE, GT, GE}
use Rattle.format.specs.Insn.{ARRAY, ARRAY2, ARYCAT, ARYPUSH, APOST, STRCAT, HASH, HASHADD, HASHCAT, RANGE_INC, RANGE_EXC, CLASS, DEF}
use Rattle.format.specs.Insn.{number, reg, plain, name, roles, row_at, operands_at}
use Rattle.format.specs.Rules.{among}

-- The registers from one on, up to but not with another: "a range that ends below its start names none"
pub record Range : Type 0 where
  pub from : ℕ
  pub upto : ℕ

abbrev pub range : ℕ → ℕ → Range
range x y = record { from = x; upto = y }

-- How a comment names registers beside those that operands name by their roles: not at all; R[a] and R[a+1]; R[a] to R[a+2]; and as `named` says
pub data Form : Type 0 where
  own pair triple send sendb super array array2 push post hash hashadd : Form

-- "n or 2k counts as one register where n or k is 15"
abbrev pub counted : ℕ → ℕ → ℕ
counted m n = cond (eqb n 15) 1 (m * n)

-- n + 2k of a call: "n is the low four bits and k the next four"
abbrev pub arguments : ℕ → ℕ
arguments v = counted 1 (v % 16) + counted 2 (v / 16 % 16)

-- the registers by the operands a, b and c, each with the comment's words
abbrev pub named : Form → ℕ → ℕ → ℕ → Range
named own a b c = range 0 0
named pair a b c = range a (a + 2)  -- R[a], R[a+1]
named triple a b c = range a (a + 3)  -- R[a], R[a+1], R[a+2]
named send a b c = range a (a + arguments c + 1)  -- "the last is a + n + 2k"
named sendb a b c = range a (a + arguments c + 2)  -- "with one more": &R[a+n+2k+1]
named super a b c = range a (a + arguments b + 2)  -- "like SSENDB with its b for c"
named array a b c = range a (a + b)  -- "they take b registers from R[a]
named array2 a b c = range b (b + c)  -- and c from R[b], one fewer than their comments name"
named push a b c = range (a + 1) (a + b + 1)  -- R[a+1]..R[a+b]
named post a b c = range (a + 1) (a + c + 1)  -- R[a+1]..R[a+c]
named hash a b c = range (a + 1) (a + b * 2)  -- R[a+1]..R[a+b*2-1]
named hashadd a b c = range (a + 1) (a + b * 2 + 1)  -- R[a+1]..R[a+b*2]

-- an opcode and the form of its comment
pub data Comment : Type 0 where
  has : OpCode → Form → Comment

-- insn.rs's comments that name more registers than their operands
unfoldable pub comments : List Comment
comments =
    has SETMCNST pair ∷  -- R[a+1]::Syms[b] = R[a]
    has GETIDX pair ∷  -- R[a] = R[a][R[a+1]]
    has SETIDX triple ∷  -- R[a][R[a+1]] = R[a+2]
    has SSEND send ∷  -- R[a] = self.send(Syms[b],R[a+1]..,R[a+n+1]:R[a+n+2]..) (c=n|k<<4)
    has SSENDB sendb ∷  -- R[a] = self.send(Syms[b],R[a+1]..,R[a+n+1]:R[a+n+2]..,&R[a+n+2k+1])
    has SEND send ∷  -- R[a] = R[a].send(Syms[b],R[a+1]..,R[a+n+1]:R[a+n+2]..) (c=n|k<<4)
    has SENDB sendb ∷  -- R[a] = R[a].send(Syms[b],R[a+1]..,R[a+n+1]:R[a+n+2]..,&R[a+n+2k+1])
    has SUPER super ∷  -- R[a] = super(R[a+1],... ,R[a+b+1])
    has ADD pair ∷  -- R[a] = R[a]+R[a+1]
    has SUB pair ∷  -- R[a] = R[a]-R[a+1]
    has MUL pair ∷  -- R[a] = R[a]*R[a+1]
    has DIV pair ∷  -- R[a] = R[a]/R[a+1]
    has EQ pair ∷  -- R[a] = R[a]==R[a+1]
    has LT pair ∷  -- R[a] = R[a]<R[a+1]
    has LE pair ∷  -- R[a] = R[a]<=R[a+1]
    has GT pair ∷  -- R[a] = R[a]>R[a+1]
    has GE pair ∷  -- R[a] = R[a]>=R[a+1]
    has ARRAY array ∷  -- R[a] = ary_new(R[a],R[a+1]..R[a+b])
    has ARRAY2 array2 ∷  -- R[a] = ary_new(R[b],R[b+1]..R[b+c])
    has ARYCAT pair ∷  -- ary_cat(R[a],R[a+1])
    has ARYPUSH push ∷  -- ary_push(R[a],R[a+1]..R[a+b])
    has APOST post ∷  -- *R[a],R[a+1]..R[a+c] = R[a][b..]
    has STRCAT pair ∷  -- str_cat(R[a],R[a+1])
    has HASH hash ∷  -- R[a] = hash_new(R[a],R[a+1]..R[a+b*2-1])
    has HASHADD hashadd ∷  -- hash_push(R[a],R[a+1]..R[a+b*2])
    has HASHCAT pair ∷  -- R[a] = hash_cat(R[a],R[a+1])
    has RANGE_INC pair ∷  -- R[a] = range_new(R[a],R[a+1],FALSE)
    has RANGE_EXC pair ∷  -- R[a] = range_new(R[a],R[a+1],TRUE)
    has CLASS pair ∷  -- R[a] = newclass(R[a],Syms[b],R[a+1])
    has DEF pair ∷  -- R[a].newmethod(Syms[b],R[a+1]); R[a] = Syms[b]
    []

abbrev pub form_from : List Comment → OpCode → Form
form_from [] o = own
form_from (has p f ∷ l) o = cond (eqb (number p) (number o)) f (form_from l o)

unfoldable pub form : OpCode → Form
form o = form_from comments o

-- the registers that a comment names by these operands
abbrev pub registers_of : OpCode → List ℕ → Range
registers_of o vs = named (form o) (get_or vs 0 0) (get_or vs 1 0) (get_or vs 2 0)

-- and at the instruction at o of the instruction bytes c
abbrev pub registers_at : List ℕ → ℕ → Range
registers_at c o = registers_of (name (row_at c o)) (operands_at c o)

-- The instruction at o names the register x: an operand with a register role does, which "always counts, also where b or c is 0", or its comment
pub data Names (c : List ℕ) (o x : ℕ) : Type 0 where
  by_role : (i : ℕ) → i < length (roles (row_at c o)) → get_or (roles (row_at c o)) i plain ≡ reg → get_or (operands_at c o) i 0 ≡ x → Names c o x
  by_comment : (registers_at c o).from ≤ x → x < (registers_at c o).upto → Names c o x

-- Paper 02's sentences and the comments' ranges, register by register, and the opcodes that they are said of: a second rendering of `named` and `form`.
-- proofs/Registers has the theorem that the two agree.

-- so many registers from x on
unfoldable pub count_from : ℕ → ℕ → List ℕ
count_from x zero = []
count_from x (suc n) = x ∷ count_from (suc x) n

-- R[x]..R[y]: "a range that ends below its start names none"
abbrev pub through : ℕ → ℕ → List ℕ
through x y = count_from x (suc y - x)

-- "For SSEND and SEND the last is a + n + 2k; n is the low four bits and k the next four; n or 2k counts as one register where n or k is 15"
abbrev pub last_of_call : ℕ → ℕ → ℕ
last_of_call a v = a + cond (eqb (v % 16) 15) 1 (v % 16) + cond (eqb (v / 16 % 16) 15) 1 (v / 16 % 16 + v / 16 % 16)

-- what each names by the operands a, b and c
abbrev pub listed : Form → ℕ → ℕ → ℕ → List ℕ
listed own a b c = []
listed pair a b c = a ∷ (a + 1) ∷ []  -- "R[a+1] of ADD,
listed triple a b c = a ∷ (a + 1) ∷ (a + 2) ∷ []  -- R[a+2] of SETIDX, and so on"
listed send a b c = through a (last_of_call a c)  -- "the last is a + n + 2k,
listed sendb a b c = through a (last_of_call a c + 1)  -- with one more in SSENDB and SENDB"
listed super a b c = through a (last_of_call a b + 1)  -- "SUPER counts like SSENDB with its b for c"
listed array a b c = count_from a b  -- "they take b registers from R[a]
listed array2 a b c = count_from b c  -- and c from R[b]"
listed push a b c = through (a + 1) (a + b)  -- the comments' ranges
listed post a b c = through (a + 1) (a + c)
listed hash a b c = through (a + 1) (a + b * 2 - 1)
listed hashadd a b c = through (a + 1) (a + b * 2)

-- and what is said of an opcode
abbrev pub said_of : OpCode → Form
said_of o =
    cond (among (SETMCNST ∷ GETIDX ∷ ADD ∷ SUB ∷ MUL ∷ DIV ∷ EQ ∷ LT ∷ LE ∷ GT ∷ GE ∷ []) o) pair
    (cond (among (ARYCAT ∷ STRCAT ∷ HASHCAT ∷ RANGE_INC ∷ RANGE_EXC ∷ CLASS ∷ DEF ∷ []) o) pair
    (cond (among (SETIDX ∷ []) o) triple
    (cond (among (SSEND ∷ SEND ∷ []) o) send
    (cond (among (SSENDB ∷ SENDB ∷ []) o) sendb
    (cond (among (SUPER ∷ []) o) super
    (cond (among (ARRAY ∷ []) o) array
    (cond (among (ARRAY2 ∷ []) o) array2
    (cond (among (ARYPUSH ∷ []) o) push
    (cond (among (APOST ∷ []) o) post
    (cond (among (HASH ∷ []) o) hash
    (cond (among (HASHADD ∷ []) o) hashadd own)))))))))))
