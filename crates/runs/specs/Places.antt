-- Where the operands of the instruction at o stand that have a role: the first, the second, the third.
-- Assumes nothing.
use Rattle.std.specs.Prelude.{ℕ, ◌+◌, List}
use Rattle.format.specs.Bytes.{byte}
use Rattle.format.specs.Insn.{lead, first_width, second_width}

abbrev pub first_place : List ℕ → ℕ → ℕ
first_place c o = o + lead (byte c o) + 1

abbrev pub second_place : List ℕ → ℕ → ℕ
second_place c o = first_place c o + first_width (byte c o)

abbrev pub third_place : List ℕ → ℕ → ℕ
third_place c o = second_place c o + second_width (byte c o)
