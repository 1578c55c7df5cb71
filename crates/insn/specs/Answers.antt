-- A fetched instruction as the definitions have it.
-- Assumes nothing.
use Rattle.std.specs.Prelude.{[], ◌∷◌}
use Rattle.format.specs.Insn as format
use Rattle.insn.specs.declared.Fetched.{Fetched}
use Rattle.insn.specs.declared.Fetched.TheVariants.{Z, BB, B, BS, BSS, BBB, S, W}

abbrev pub fetched_of : Fetched → format.Insn
fetched_of Z = format.insn format.Z []
fetched_of (BB a b) = format.insn format.BB (a ∷ b ∷ [])
fetched_of (B a) = format.insn format.B (a ∷ [])
fetched_of (BS a s) = format.insn format.BS (a ∷ s ∷ [])
fetched_of (BSS a s t) = format.insn format.BSS (a ∷ s ∷ t ∷ [])
fetched_of (BBB a b c) = format.insn format.BBB (a ∷ b ∷ c ∷ [])
fetched_of (S s) = format.insn format.S (s ∷ [])
fetched_of (W w) = format.insn format.W (w ∷ [])
