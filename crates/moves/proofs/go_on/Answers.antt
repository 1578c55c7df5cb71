-- `moves::go_on` meets its contract.
-- Assumes nothing.
use mathlib.Core.Path.{ap, ◌∙◌}
use mathlib.Core.Logic.{inl, inr}
use Rattle.format.specs.Run.{to}
use Rattle.moves.proofs.Moves.{entire, jumps_here, on_is}
use Rattle.moves.proofs.go_on.Goals as goal

pub opcode_at-requires : goal.opcode_at-requires
opcode_at-requires c = entire c.requires

pub next_offset-requires : goal.next_offset-requires
next_offset-requires c = entire c.requires

pub jump_target-requires : goal.jump_target-requires
jump_target-requires c = jumps_here c.args.code.now c.args.o c.op_row.result c.opcode_at.ensures c.op_row.ensures c.in-Jumps.is tt c.requires

pub returns-in-On : goal.returns-in-On
returns-in-On c =
    let a = c.args in
    elim c.in-On.is [
      | inl e ↦ ap to c.next_offset.ensures ∙ on_is a.code.now a.o c.op_row.result c.opcode_at.ensures c.op_row.ensures e
      | inr e ↦ ap to c.next_offset.ensures ∙ on_is a.code.now a.o c.op_row.result c.opcode_at.ensures c.op_row.ensures e
    ]

pub returns-in-Ends : goal.returns-in-Ends
returns-in-Ends c = on_is c.args.code.now c.args.o c.op_row.result c.opcode_at.ensures c.op_row.ensures c.in-Ends.is

pub returns-in-Jumps : goal.returns-in-Jumps
returns-in-Jumps c =
    ap to c.jump_target.ensures ∙ on_is c.args.code.now c.args.o c.op_row.result c.opcode_at.ensures c.op_row.ensures c.in-Jumps.is
