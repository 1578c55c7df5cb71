-- What the code's operand kinds are in the format's terms.
-- Assumes nothing.
use Rattle.format.specs.Insn as format
use Rattle.opcode_kind.specs.declared.Kind.{Kind}
use Rattle.opcode_kind.specs.declared.Kind.TheVariants as k

abbrev pub kind_of : Kind → format.Kind
kind_of k.Z = format.Z
kind_of k.BB = format.BB
kind_of k.B = format.B
kind_of k.BS = format.BS
kind_of k.BSS = format.BSS
kind_of k.BBB = format.BBB
kind_of k.S = format.S
kind_of k.W = format.W
