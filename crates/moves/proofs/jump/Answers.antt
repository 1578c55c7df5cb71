-- `moves::jump` meets its contract.
-- Assumes nothing.
use mathlib.Core.Path.{refl, ap, ◌∙◌}
use mathlib.Core.Logic.{inl, inr}
use Rattle.format.specs.Run.{to}
use Rattle.moves.proofs.Moves.{entire, jumps_here, jump_is, jump_on}
use Rattle.moves.proofs.jump.Goals as goal

pub opcode_at-requires : goal.opcode_at-requires
opcode_at-requires c = entire c.requires

pub jump_target-requires : goal.jump_target-requires
jump_target-requires c = jumps_here c.args.code.now c.args.o c.op_row.result c.opcode_at.ensures c.op_row.ensures c.in-May.is tt c.requires

pub returns-in-On : goal.returns-in-On
returns-in-On c =
    let a = c.args in
    elim c.in-On.is [
      | inl e ↦ jump_on a.code.now a.o c.op_row.result c.opcode_at.ensures c.op_row.ensures e refl c.go_on.ensures
      | inr (inl e) ↦ jump_on a.code.now a.o c.op_row.result c.opcode_at.ensures c.op_row.ensures e refl c.go_on.ensures
      | inr (inr e) ↦ jump_on a.code.now a.o c.op_row.result c.opcode_at.ensures c.op_row.ensures e refl c.go_on.ensures
    ]

pub returns-in-May : goal.returns-in-May
returns-in-May c =
    ap to c.jump_target.ensures ∙ jump_is c.args.code.now c.args.o c.op_row.result c.opcode_at.ensures c.op_row.ensures c.in-May.is
