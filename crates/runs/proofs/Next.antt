-- The opcode and the next offset of the instruction at o, wherever it stands.
-- Assumes nothing.
use Prim.Native.Nat.{ℕ, suc, ◌+◌}
use native.Mathlib.Nat.{zero-add, add-zero}
use native.Mathlib.Omega.{arith}
use mathlib.Core.Path.{◌≡◌, ap, ◌∙◌}
use mathlib.Core.Bool.{Bool, true, false, cond}
use mathlib.Core.List.{List, ◌∷◌}
use lib.ListN.{drop}
use lib.Seq.{get_or-drop}
use Rattle.format.specs.Bytes.{byte}
use Rattle.format.specs.Insn.{total, size, prefix, lead, fields_at, opcode, row_at, kind, rest, next}
use Rattle.format.proofs.Prefix.{no_widening}

-- the opcode behind the first byte, read from what stands there
behind : (c : List ℕ) (o : ℕ) (p : Bool) → byte (byte c o ∷ drop (suc o) c) (cond p 1 0) ≡ byte c (o + cond p 1 0)
behind c o true = get_or-drop (suc o) c 0 0 ∙ ap (byte c) (omega arith)
behind c o false = rw add-zero

opcode_here : (c : List ℕ) (o : ℕ) → opcode (byte c o ∷ drop (suc o) c) 0 ≡ opcode c o
unfolding opcode
opcode_here c o = rw zero-add (behind c o (prefix (byte c o)))

-- how many bytes the instruction at o has behind its first byte
pub rest_at : (c : List ℕ) (o : ℕ) → rest (byte c o) (drop (suc o) c) ≡ lead (byte c o) + total (fields_at c o)
unfolding rest
rest_at c o = rw (opcode_here c o)

pub next_at : (c : List ℕ) (o : ℕ) → next c o ≡ o + suc (lead (byte c o) + total (fields_at c o))
next_at c o = ap (λ (n : ℕ). o + suc n) (rest_at c o)

-- the opcode of an instruction that begins with a prefix, and of one that does not
pub opcode_behind : (c : List ℕ) (o : ℕ) → prefix (byte c o) ≡ true → opcode c o ≡ byte c (o + 1)
unfolding opcode
opcode_behind c o e = rw e

module _ (c : List ℕ) (o : ℕ) (e : prefix (byte c o) ≡ false) where
  pub opcode_alone : opcode c o ≡ byte c o
  unfolding opcode
  opcode_alone = rw (e, add-zero)

  -- its size is its opcode's
  pub next_alone : next c o ≡ o + size (byte c o)
  next_alone = next_at c o ∙ rw (no_widening (byte c o) e (kind (row_at c o)), e, opcode_alone) (omega arith)
