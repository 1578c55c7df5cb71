-- Sizes beside ops.h. Paper 02, e): "Each opcode byte, and each but 115 to 117 behind a prefix, is proved to have paper 01's size, plus one for a
-- prefix and each operand it widens."
-- Assumes nothing.
use Prim.Native.Nat.{ℕ, ◌+◌}
use mathlib.Core.Path.{◌≡◌, ap, ◌∙◌}
use mathlib.Core.Bool.{not}
use mathlib.Core.List.{List}
use lib.Dec.{T}
use lib.Ieee.Bits.{is_true, is_false}
use Rattle.format.specs.Bytes.{byte}
use Rattle.format.specs.Insn.{kind, row, prefix, size, next}
use Rattle.format.specs.Sizes.{size_of, size_behind}
use Rattle.format.proofs.Sizes.{size_alone, size_behind_lem}
use Rattle.runs.proofs.Next.{next_at, next_alone, opcode_behind}

-- The sizes of an opcode byte b: by itself, as fetch reads it; and among instruction bytes c, of an instruction at o that b begins, and of one in which b
-- stands behind the prefix p.
pub record Sized (b : ℕ) : Type 0 where
  pub alone : size b ≡ size_of (kind (row b))
  pub begins : T (not (prefix b)) → (c : List ℕ) (o : ℕ) → byte c o ≡ b → next c o ≡ o + size_of (kind (row b))
  pub behind : T (not (prefix b)) → (p : ℕ) → T (prefix p) → (c : List ℕ) (o : ℕ) → byte c o ≡ p → byte c (o + 1) ≡ b
      → next c o ≡ o + size_behind p (kind (row b))

pub sizes : (b : ℕ) → Sized b
sizes b =
    record {
      alone = size_alone b;
      begins = λ n c o e. next_alone c o (ap prefix e ∙ is_false (prefix b) n) ∙ rw e (ap (λ (m : ℕ). o + m) (size_alone b));
      behind = λ n p t c o e d.
          next_at c o ∙ rw (opcode_behind c o (ap prefix e ∙ is_true (prefix p) t), e, d) (ap (λ (m : ℕ). o + m) (size_behind_lem b p t));
    }
