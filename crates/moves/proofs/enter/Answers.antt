-- `moves::enter` meets its contract.
-- Assumes nothing.
use Prim.Native.Nat.{ℕ}
use mathlib.Core.Path.{◌≡◌, ap, ◌∙◌}
use mathlib.Core.List.{List}
use Rattle.std.specs.Prelude.{Option}
use Rattle.format.specs.Insn.{opcode}
use Rattle.opcode.specs.declared.OpRow.{OpRow}
use Rattle.opcode.specs.Rows.{row_of, op_row}
use Rattle.moves.specs.declared.Operand.{Operand}
use Rattle.moves.specs.Answers.{child_among}
use Rattle.moves.proofs.Moves.{entire, enter_is, enter_on}
use Rattle.moves.proofs.enter.Goals as goal

pub opcode_at-requires : goal.opcode_at-requires
opcode_at-requires c = entire c.requires

-- the operand that is found is that of the opcode
found : (code : List ℕ) (o : ℕ) (op : OpRow) {x : Option Operand} {b : ℕ} → x ≡ child_among (row_of op) → row_of op ≡ op_row b → b ≡ opcode code o
    → x ≡ child_among (op_row (opcode code o))
found code o op en er eb = en ∙ ap child_among (er ∙ ap op_row eb)

pub child_number-child-requires : goal.child_number-child-requires
child_number-child-requires c = (entire c.requires).inside

pub next_offset-offset-requires : goal.next_offset-offset-requires
next_offset-offset-requires c = entire c.requires

pub returns-in-None : goal.returns-in-None
returns-in-None c =
    let a = c.args in
    enter_on a.code.now a.o (found a.code.now a.o c.op_row.result c.in-None.ensures c.op_row.ensures c.opcode_at.ensures) c.go_on.ensures

pub returns-in-Some : goal.returns-in-Some
returns-in-Some c =
    let a = c.args in
    enter_is a.code.now a.o (found a.code.now a.o c.op_row.result c.in-Some.ensures c.op_row.ensures c.opcode_at.ensures)
    c.child_number-child.ensures c.next_offset-offset.ensures
