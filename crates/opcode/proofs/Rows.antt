-- The row of an opcode byte: from its digits, and its operand kind.
-- Assumes nothing.
use Prim.Native.Nat.{ℕ}
use mathlib.Core.Path.{◌≡◌, sym, ap, ◌∙◌}
use Rattle.format.specs.Insn.{Kind, Role, Flow, row, kind}
use Rattle.opcode_kind.specs.Kinds.{kind_of}
use Rattle.opcode.specs.declared.OpRow.{OpRow}
use Rattle.opcode.specs.Digits.{role_at, flow_at, kind_at, first_in, second_in, inside_in, last_in, kind_in, third_in, digits_of}
use Rattle.opcode.specs.Rows.{RowView, op_row, row_of}
use Rattle.opcode.proofs.Numbers.{row_kind, row_first, row_second, row_third, row_flow}

-- kind, roles and flow that the code made of the digits d
pub row_told : (b : ℕ) {d : ℕ} {k : Kind} {x y z : Role} {f : Flow} → d ≡ digits_of b → k ≡ kind_at (kind_in d) → x ≡ role_at (first_in d)
    → y ≡ role_at (second_in d) → z ≡ role_at (third_in d) → f ≡ flow_at (inside_in d) (last_in d)
    → ◌≡◌ {A = RowView} record { kind = k; first = x; second = y; third = z; flow = f } (op_row b)
row_told b e k x y z f = rw (k ∙ row_kind b e, x ∙ row_first b e, y ∙ row_second b e, z ∙ row_third b e, f ∙ row_flow b e)

pub kind_told : (r : OpRow) (b : ℕ) → row_of r ≡ op_row b → kind (row b) ≡ kind_of r.kind
kind_told r b h = ap (λ (v : RowView). v.kind) (sym h)
