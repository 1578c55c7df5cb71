-- The opcodes that a school permits. Paper 02, n).
-- Assumes nothing.
use Rattle.std.specs.Prelude.{ℕ, ◌<◌, Bool, ◌&&◌, List, T, ltb, get_or, replicate}
use Rattle.format.specs.Bytes.{byte}
use Rattle.format.specs.Insn.{known, opcode}

-- "a list of 119 bytes, one an opcode, 0 for no, else yes; a missing byte is no, one past 119 is not read"
unfoldable pub permits : List ℕ → ℕ → Bool
permits q b = known b && ltb 0 (get_or q b 0)

-- "A prefix needs its own yes": the instruction at o has one for its first byte and one for its opcode, which are the same byte without a prefix
unfoldable pub permitted_at : List ℕ → List ℕ → ℕ → Bool
permitted_at q c o = permits q (byte c o) && permits q (opcode c o)

-- "Permitting further opcodes": the second list permits what the first does
abbrev pub Further : List ℕ → List ℕ → Type 0
Further q l = (b : ℕ) → T (permits q b) → T (permits l b)

-- "With everything permitted", the three prefixes too
abbrev pub Everything : List ℕ → Type 0
Everything q = (b : ℕ) → b < 119 → T (permits q b)

-- and the list of as many bytes that says so
abbrev pub everything : List ℕ
everything = replicate 119 1
