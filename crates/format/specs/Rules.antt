-- Paper 01's sentences on roles, jumps and endings ('Examination') and paper 02's on newer opcodes (c), as lists of opcodes: a second rendering of the
-- table of opcodes.
-- proofs/Table.antt has the computed test that the two agree.
-- Assumes nothing.
use Rattle.std.specs.Prelude.{Bool, ◌||◌, ◌&&◌, cond, List, [], ◌∷◌, map, leb}
use Rattle.format.specs.Bytes.{one_of}
use Rattle.format.specs.Insn.{OpCode, MOVE, LOADL, LOADSYM, GETGV, SETMCNST, GETIDX0, JMP, JMPIF, JMPNOT, JMPNIL, JMPUW, RESCUE, SSEND, SSEND0}
use Rattle.format.specs.Insn.{SSENDB, SEND, SEND0, SENDB, CALL, KEY_P, KARG, RETURN, RETURN_BLK, RETSELF, RETNIL, RETTRUE, RETFALSE, BREAK}
use Rattle.format.specs.Insn.{ARRAY2, AREF, ASET, SYMBOL, STRING, LAMBDA, BLOCK, METHOD, CLASS, MODULE, EXEC, DEF, TDEF, SDEF, ALIAS, UNDEF}
use Rattle.format.specs.Insn.{DEBUG, ERR, STOP, number, Kind, Z}
use Rattle.format.specs.Insn.{BB, B, BS, BSS, BBB, S, W, Role, reg, pool, sym, child, plain, Flow, on, ends, jumps, may, Row, op}

abbrev pub among : List OpCode → OpCode → Bool
among xs o = one_of (map number xs) (number o)

-- "GETGV to SETMCNST", in the order of opcode bytes
abbrev pub between : OpCode → OpCode → OpCode → Bool
between a b o = leb (number a) (number o) && leb (number o) (number b)

-- "the first operand of B, BB, BBB, BS, BSS is a register, except in UNDEF and ALIAS (symbol), ERR (pool), DEBUG (plain)."
abbrev pub first_role : OpCode → Role
first_role o =
    cond (among (UNDEF ∷ ALIAS ∷ []) o) sym
    (cond (among (ERR ∷ []) o) pool
    (cond (among (DEBUG ∷ []) o) plain reg))

-- Paper 01: "Second operand: register in MOVE, RESCUE, ARRAY2, AREF, ASET; pool in LOADL, SYMBOL, STRING; symbol in LOADSYM, GETGV to SETMCNST,
-- SSEND, SSENDB, SEND, SENDB, KEY_P, KARG, CLASS, MODULE, DEF, ALIAS; child in LAMBDA, BLOCK, METHOD, EXEC. All else is plain"
abbrev pub second_role01 : OpCode → Role
second_role01 o =
    cond (among (MOVE ∷ RESCUE ∷ ARRAY2 ∷ AREF ∷ ASET ∷ []) o) reg
    (cond (among (LOADL ∷ SYMBOL ∷ STRING ∷ []) o) pool
    (cond (among (LOADSYM ∷ []) o || between GETGV SETMCNST o
    || among (SSEND ∷ SSENDB ∷ SEND ∷ SENDB ∷ KEY_P ∷ KARG ∷ CLASS ∷ MODULE ∷ DEF ∷ ALIAS ∷ []) o) sym
    (cond (among (LAMBDA ∷ BLOCK ∷ METHOD ∷ EXEC ∷ []) o) child plain)))

-- Paper 02, c): "GETIDX0's second operand is a register. In SSEND0 and SEND0 the second is a symbol. In TDEF and SDEF the second is a symbol and
-- the third a child. The other opcodes without a comment keep paper 01's roles."
abbrev pub second_role : OpCode → Role
second_role o = cond (among (GETIDX0 ∷ []) o) reg (cond (among (SSEND0 ∷ SEND0 ∷ TDEF ∷ SDEF ∷ []) o) sym (second_role01 o))

abbrev pub third_role : OpCode → Role
third_role o = cond (among (TDEF ∷ SDEF ∷ []) o) child plain

-- a role for each operand that a kind has, where a second operand has the role y and a third z
abbrev pub roles_with : Role → Role → OpCode → Kind → List Role
roles_with y z o Z = []
roles_with y z o BB = first_role o ∷ y ∷ []
roles_with y z o B = first_role o ∷ []
roles_with y z o BS = first_role o ∷ y ∷ []
roles_with y z o BSS = first_role o ∷ y ∷ z ∷ []
roles_with y z o BBB = first_role o ∷ y ∷ z ∷ []
roles_with y z o S = plain ∷ []
roles_with y z o W = plain ∷ []

-- "Jumps (JMP, JMPUW, JMPIF, JMPNOT, JMPNIL)"; "JMP and JMPUW jump", the others by choice 1. "Ending: RETURN, RETURN_BLK, RETSELF, RETNIL,
-- RETTRUE, RETFALSE, BREAK, CALL, ERR, STOP."
abbrev pub flow_by : OpCode → Flow
flow_by o =
    cond (among (JMP ∷ JMPUW ∷ []) o) jumps
    (cond (among (JMPIF ∷ JMPNOT ∷ JMPNIL ∷ []) o) may
    (cond (among (RETURN ∷ RETURN_BLK ∷ RETSELF ∷ RETNIL ∷ RETTRUE ∷ RETFALSE ∷ BREAK ∷ CALL ∷ ERR ∷ STOP ∷ []) o) ends on))

-- a row as those sentences have it
abbrev pub by_rules : Row → Row
by_rules (op o k rs f) = op o k (roles_with (second_role o) (third_role o) o k) (flow_by o)
