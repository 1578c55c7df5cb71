-- What the structs of a fetched instruction and of a line say of the format's answers.
-- Assumes nothing.
use Rattle.std.specs.Prelude.{ℕ, get_or}
use Rattle.std.proofs.Math.Option.{Option, none, some}
use Rattle.format.specs.Bytes.{Answer, ok, refused}
use Rattle.format.specs.Insn.{Kind, Z, B, BB, S, BBB, BS, W, BSS, Insn}
use Rattle.boundary_steps.specs.declared.BlotheathFetched.{BlotheathFetched}
use Rattle.boundary_steps.specs.declared.BlotheathLine.{BlotheathLine}

abbrev pub kind_number : Kind → ℕ
kind_number Z = 0
kind_number B = 1
kind_number BB = 2
kind_number S = 3
kind_number BBB = 4
kind_number BS = 5
kind_number W = 6
kind_number BSS = 7

abbrev pub given : ℕ → ℕ → ℕ → ℕ → BlotheathFetched
given k a b c = record { refusal = 0; kind = k; a = a; b = b; c = c }

-- an instruction: its kind's number and its operands, 0 for one that it lacks
abbrev pub instruction_is : Insn → BlotheathFetched
instruction_is i = given (kind_number i.kind) (get_or i.operands 0 0) (get_or i.operands 1 0) (get_or i.operands 2 0)

abbrev pub fetched_is : Answer Insn → BlotheathFetched
fetched_is (ok i) = instruction_is i
fetched_is (refused n) = record { refusal = n; kind = 0; a = 0; b = 0; c = 0 }

abbrev pub line_is : Option ℕ → BlotheathLine
line_is (some l) = record { found = 1; line = l }
line_is none = record { found = 0; line = 0 }
