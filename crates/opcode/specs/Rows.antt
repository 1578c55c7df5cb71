-- What the code's roles, flows and rows are in the format's terms, and the row of an opcode byte.
-- Assumes nothing.
use Rattle.std.specs.Prelude.{ℕ}
use Rattle.format.specs.Insn as format
use Rattle.opcode_kind.specs.Kinds.{kind_of}
use Rattle.opcode.specs.Digits.{first_role, second_role, third_role}
use Rattle.opcode.specs.declared.Role.{Role}
use Rattle.opcode.specs.declared.Role.TheVariants as r
use Rattle.opcode.specs.declared.Flow.{Flow}
use Rattle.opcode.specs.declared.Flow.TheVariants as f
use Rattle.opcode.specs.declared.OpRow.{OpRow}

abbrev pub role_of : Role → format.Role
role_of r.Plain = format.plain
role_of r.Reg = format.reg
role_of r.Pool = format.pool
role_of r.Sym = format.sym
role_of r.Child = format.child

abbrev pub flow_of : Flow → format.Flow
flow_of f.On = format.on
flow_of f.Ends = format.ends
flow_of f.Jumps = format.jumps
flow_of f.May = format.may

-- an opcode's operand kind, the roles of its operands, and where a run goes on
pub record RowView : Type 0 where
  pub kind : format.Kind
  pub first : format.Role
  pub second : format.Role
  pub third : format.Role
  pub flow : format.Flow

-- of a row of the format's table: an operand that it lacks is plain
abbrev pub view_of : format.Row → RowView
view_of o = record { kind = format.kind o; first = first_role o; second = second_role o; third = third_role o; flow = format.flow o }

-- the row of an opcode byte
abbrev pub op_row : ℕ → RowView
op_row b = view_of (format.row b)

-- the code's rows
abbrev pub row_of : OpRow → RowView
row_of o =
    record { kind = kind_of o.kind; first = role_of o.first; second = role_of o.second; third = role_of o.third; flow = flow_of o.flow }
