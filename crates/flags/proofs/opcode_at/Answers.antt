-- `flags::opcode_at` meets its contract.
-- Assumes nothing.
use native.Mathlib.Omega.{arith}
use Rattle.format.specs.Insn.{opcode}
use Rattle.flags.proofs.Tests.{opcode_inside}
use Rattle.flags.proofs.opcode_at.Goals as goal

pub bounds-code-i-2 : goal.bounds-code-i-2
bounds-code-i-2 c = omega (arith, c.lead.ensures, opcode_inside c.requires)

pub returns : goal.returns
unfolding opcode
returns c = rw c.lead.ensures
