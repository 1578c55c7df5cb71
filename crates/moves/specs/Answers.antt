-- What each case of this crate's enums stands for: the paper's choices and moves.
-- Assumes nothing.
use Rattle.std.specs.Prelude.{ℕ, ◌≤◌, ◌<◌, ◌≡◌, cond, List, length, drop, Option, Some, None, Result, Ok, Err}
use Rattle.format.specs.Bytes.{byte, refused}
use Rattle.format.specs.Insn.{second_width, operand}
use Rattle.format.specs.Run as format
use Rattle.runs.specs.Places.{second_place, third_place}
use Rattle.refusal.specs.Number.{number}
use Rattle.refusal.specs.declared.Refusal.{Refusal}
use Rattle.opcode.specs.Rows.{RowView}
use Rattle.moves.specs.declared.Choice.{Choice}
use Rattle.moves.specs.declared.Choice.TheVariants as choice
use Rattle.moves.specs.declared.Read.{Read}
use Rattle.moves.specs.declared.Operand.{Operand}
use Rattle.moves.specs.declared.Operand.TheVariants as operands
use Rattle.moves.specs.declared.Moved.{Moved}
use Rattle.moves.specs.declared.Moved.TheVariants as moved

abbrev pub choice_of : Choice → format.Choice
choice_of choice.GoOn = format.go_on
choice_of choice.Jump = format.jump
choice_of choice.Enter = format.enter
choice_of (choice.Caught h) = format.caught h
choice_of choice.Leave = format.leave

abbrev pub move_of : Moved → format.Move
move_of moved.Gone = format.gone
move_of (moved.To o) = format.to o
move_of (moved.Into k o) = format.into k o

-- which operand of an opcode numbers a child
abbrev pub child_among : RowView → Option Operand
child_among v = cond (format.is_child v.second) (Some operands.Second) (cond (format.is_child v.third) (Some operands.Third) None)

-- the number that an operand of the instruction at o holds, where it is a child's
abbrev pub child_number : List ℕ → ℕ → Operand → ℕ
child_number c o operands.Second = operand (second_width (byte c o)) c (second_place c o)
child_number c o operands.Third = byte c (third_place c o)

-- the choice c stands at place i of the bytes, and j is the place after it
pub record NextIs (bs : List ℕ) (i : ℕ) (c : Choice) (j : ℕ) : Type 0 where
  pub later : i < j
  pub inside : j ≤ length bs
  pub so : format.choices_from format.kind (drop i bs) ≡ format.put (choice_of c) (format.choices_from format.kind (drop j bs))

-- what is read at place i of the bytes: a choice, or refusal 21
abbrev pub ReadAt : List ℕ → ℕ → Result Read Refusal → Type 0
ReadAt bs i (Ok r) = NextIs bs i r.choice r.next
ReadAt bs i (Err e) = (format.choices_from format.kind (drop i bs) ≡ refused 21) × (number e ≡ 21)
