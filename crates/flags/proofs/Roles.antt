-- 17 at an instruction by the digits of its opcode; and its flag.
-- Assumes nothing.
use Prim.Native.Nat.{ℕ, ◌+◌}
use native.Mathlib.Omega.{arith}
use mathlib.Core.Path.{◌≡◌, ◌∙◌}
use mathlib.Core.Bool.{Bool, true, false}
use mathlib.Core.List.{List}
use lib.Dec.{ltb}
use lib.ListN.{length}
use Rattle.format.specs.Bytes.{byte}
use Rattle.format.specs.Insn.{prefix, first_width, second_width, operand, opcode, row_at, next}
use Rattle.format.specs.Exam.{bounded}
use Rattle.format.proofs.Prefix.{no_first, no_second}
use Rattle.runs.specs.Places.{first_place}
use Rattle.opcode.specs.Digits.{second_role, third_role}
use Rattle.opcode.proofs.Numbers.{role_small, first_small, few, first_digit, second_digit, third_digit, inside_digit, last_digit}
use Rattle.flags.specs.Flags.{Limits, bare, Looked, Numbered, below_by, flag_at, flag_by}
use Rattle.flags.proofs.Registers.{bounded_by}

module _ {c : List ℕ} {o d : ℕ} (k : Looked c o d) where
  pub numbered : Numbered d
  numbered =
      let r = row_at c o in
      let s = few (opcode c o) in
      record {
        first = omega (arith, first_digit r k.digits s, first_small r);
        second = omega (arith, second_digit r k.digits s, role_small (second_role r));
        third = omega (arith, third_digit r k.digits s, role_small (third_role r));
      }

  module _ {l : List ℕ} (h : Limits l) where
    -- 17 by what the code answers, without a prefix and behind one
    pub bounded_alone : prefix (byte c o) ≡ false → {r : Bool} → r ≡ below_by l d (operand 1 c (o + 1)) (operand 1 c (o + 1 + 1)) (byte c (o + 1 + 1 + 1))
        → r ≡ bounded (bare l c) o
    bounded_alone p e =
        let one : first_place c o ≡ o + 1 = rw p (omega arith) in
        e ∙ (rw (one, no_first (byte c o) p, no_second (byte c o) p) at (bounded_by h c o k.digits))

    pub bounded_behind : prefix (byte c o) ≡ true → {x y : ℕ} {r : Bool} → x ≡ first_width (byte c o) → y ≡ second_width (byte c o)
        → r ≡ below_by l d (operand x c (o + 2)) (operand y c (o + 2 + x)) (byte c (o + 2 + x + y)) → r ≡ bounded (bare l c) o
    bounded_behind p ex ey e =
        let two : first_place c o ≡ o + 2 = rw p (omega arith) in
        e ∙ (rw (two, ← ex, ← ey) at (bounded_by h c o k.digits))

  -- the flag: b is what 17 answers, i whether the next offset is inside
  pub flag_told : (l : List ℕ) {b i : Bool} → b ≡ bounded (bare l c) o → i ≡ ltb (next c o) (length c) → flag_by b i d ≡ flag_at (bare l c) o
  unfolding flag_at
  flag_told l eb ei = rw (eb, ei, inside_digit (row_at c o) k.digits (few (opcode c o)), last_digit (row_at c o) k.digits (few (opcode c o)))
