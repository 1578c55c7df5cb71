-- What a choice does to the top frame, by the row of the opcode that the code looked up.
-- Assumes nothing.
use Prim.Native.Nat.{ℕ, ◌+◌, ◌-◌, ◌*◌, ◌≤◌, ◌<◌}
use native.Mathlib.Omega.{arith}
use mathlib.Core.Path.{◌≡◌, refl, sym, ap, ◌∙◌, subst}
use mathlib.Core.Bool.{Bool, true, false, not, cond}
use mathlib.Core.Option as math
use Rattle.std.specs.Prelude.{Option, Some, None}
use mathlib.Core.List.{List, []}
use lib.Dec.{T}
use lib.ListN.{length}
use borrow.Author.Tests.{lt-ltb, le-ltb}
use Rattle.format.specs.Bytes.{byte, u16_at}
use Rattle.format.specs.Insn.{Flow, on, ends, jumps, may, roles, flow, second_width, operand, opcode, row_at, operands_at, next, target}
use Rattle.format.specs.Pattern.{Record, begins, lands}
use Rattle.format.specs.Exam.{stray, readable, leads, has_target, follows}
use Rattle.format.specs.Run.{Choice, go_on, jump, enter, leave, caught, is_child, child_operand, Move, gone, to, into, goes, jumped, move}
use Rattle.format.proofs.Table.{both}
use Rattle.format.proofs.RowsFrom.{rows_from_length, rows_from_at}
use Rattle.runs.specs.Stack.{Stands, Jumps}
use Rattle.runs.specs.Places.{second_place, third_place}
use Rattle.flags.specs.Flags.{Entire}
use Rattle.runs.proofs.Begins.{reach_inside}
use Rattle.runs.proofs.Operands.{role_in, child_places}
use Rattle.runs.proofs.Jumps as laws
use Rattle.runs.proofs.Exact.{met_none}
use Rattle.opcode.specs.declared.OpRow.{OpRow}
use Rattle.opcode.specs.declared.Flow as insn_flow
use Rattle.opcode.specs.Rows.{RowView, row_of, op_row, flow_of}
use Rattle.exam.specs.View.{target_at, targets}
use Rattle.moves.specs.declared.Choice as moves
use Rattle.moves.specs.declared.Operand.{Operand}
use Rattle.moves.specs.declared.Operand.TheVariants.{Second, Third}
use Rattle.moves.specs.declared.Choice.TheVariants.{GoOn, Jump, Enter, Leave}
use Rattle.moves.specs.Answers.{choice_of, child_among, child_number}
use Rattle.moves.specs.Part.{part}

-- a move sees a record's instruction bytes and handlers alone
pub move_part : (r : Record) (o : ℕ) (c : Choice) → move (part r.code r.handlers) o c ≡ move r o c
unfolding move
move_part r o go_on = refl
move_part r o jump = refl
move_part r o enter = refl
move_part r o leave = refl
move_part r o (caught h) = refl

-- an instruction where a frame stands, and a jump there
begun : (c : List ℕ) (o : ℕ) → T (begins c o) → T (not (stray c o)) → T (readable c o) → Entire c o
begun c o t s r = record { inside = reach_inside c 0 o t; none = met_none (stray c o) (readable c o) s r }

pub entire : {c : List ℕ} {o : ℕ} → Stands c o → Entire c o
entire {c} {o} s = begun c o s.starts s.paired s.reads

pub entire_jump : {c : List ℕ} {o : ℕ} → Jumps c o → Entire c o
entire_jump {c} {o} j = begun c o j.starts j.paired j.reads

-- n: the next offset; x, y: the bytes of the jump's operand
module _ {c : List ℕ} {o n x y : ℕ} (j : Jumps c o) (en : n ≡ next c o) (ex : x ≡ byte c (n - 2)) (ey : y ≡ byte c (n - 2 + 1)) where
  operand_is : x * 256 + y ≡ u16_at c (next c o - 2)
  operand_is = rw (← en) (omega arith)

  pub target_low : x * 256 + y < 32768 → n + (x * 256 + y) ≡ target c o
  target_low h = omega (arith, laws.target_low c o j.jump (x * 256 + y) operand_is h)

  pub target_high : 32768 ≤ x * 256 + y → n + (x * 256 + y) - 65536 ≡ target c o
  target_high h = omega (arith, laws.target_high c o j.jump (x * 256 + y) operand_is h)

  pub not_before : 32768 ≤ x * 256 + y → 65536 ≤ n + (x * 256 + y)
  not_before h = omega (arith, laws.not_before c o j.jump (x * 256 + y) operand_is h j.goes)

has_target_lem : (w : Flow) (n t : Bool) → T (has_target w) → T (leads w n t) → T t
has_target_lem on n t h l = absurd h
has_target_lem ends n t h l = absurd h
has_target_lem jumps n t h l = l
has_target_lem may n t h l = search both

-- b: the opcode byte that the code read; r: its row; w: the row's flow
module _ (c : List ℕ) (o : ℕ) (r : OpRow) {b : ℕ} (eb : b ≡ opcode c o) (er : row_of r ≡ op_row b) {w : insn_flow.Flow} (q : r.flow ≡ w) where
  flow_is : flow (row_at c o) ≡ flow_of w
  flow_is = let e = er ∙ ap op_row eb in sym (ap (λ (v : RowView). v.flow) e) ∙ ap flow_of q

  -- where the flow has a target, a jump stands there
  pub jumps_here : T (has_target (flow_of w)) → Stands c o → Jumps c o
  unfolding follows
  jumps_here h s =
      let t : T (has_target (flow (row_at c o))) = subst (λ (f : Flow). T (has_target f)) (sym flow_is) h in
      record { starts = s.starts; jump = t; paired = s.paired; reads = s.reads; goes = has_target_lem (flow (row_at c o)) (begins c (next c o)) (lands c o) t s.goes }

  -- 0
  pub on_is : goes (flow_of w) (next c o) (target c o) ≡ move (part c []) o go_on
  unfolding move
  on_is = ap (λ (f : Flow). goes f (next c o) (target c o)) (sym flow_is)

  -- 1
  pub jump_is : jumped (flow_of w) (next c o) (target c o) ≡ move (part c []) o jump
  unfolding move
  jump_is = ap (λ (f : Flow). jumped f (next c o) (target c o)) (sym flow_is)

  -- where no jump is open
  pub jump_on : {m : Move} → goes (flow_of w) (next c o) (target c o) ≡ jumped (flow_of w) (next c o) (target c o)
      → m ≡ move (part c []) o go_on → m ≡ move (part c []) o jump
  jump_on k g = g ∙ sym on_is ∙ k ∙ jump_is

-- the child operand by its place
abbrev child_by : List ℕ → ℕ → Option Operand → math.Option ℕ
child_by c o (Some x) = math.some (child_number c o x)
child_by c o None = math.none

child_is : (c : List ℕ) (o : ℕ) → child_operand (roles (row_at c o)) (operands_at c o) ≡ child_by c o (child_among (op_row (opcode c o)))
child_is c o = child_places c o ∙ go (is_child (role_in c o 1)) (is_child (role_in c o 2))
  where
    go : (y z : Bool)
        → cond y (math.some (operand (second_width (byte c o)) c (second_place c o))) (cond z (math.some (byte c (third_place c o))) math.none)
        ≡ child_by c o (cond y (Some Second) (cond z (Some Third) None))
    go true z = refl
    go false true = refl
    go false false = refl

module _ (c : List ℕ) (o : ℕ) where
  -- where there is none
  pub enter_on : {m : Move} → None ≡ child_among (op_row (opcode c o)) → m ≡ move (part c []) o go_on → m ≡ move (part c []) o enter
  unfolding move
  enter_on e g = g ∙ rw (child_is c o, ← e)

  -- 2
  pub enter_is : {x : Operand} {k m : ℕ} → Some x ≡ child_among (op_row (opcode c o)) → k ≡ child_number c o x → m ≡ next c o
      → into k m ≡ move (part c []) o enter
  unfolding move
  enter_is e ek em = rw (child_is c o, ← e, ek, em)

module _ (c hs : List ℕ) (o first number : ℕ) where
  count : length (targets hs first number) ≡ number
  count = rows_from_length (target_at hs) first number

  -- 3
  pub caught_is : (h : ℕ) → h < number → to (target_at hs (first + h)) ≡ move (part c (targets hs first number)) o (caught h)
  unfolding move
  caught_is h l =
      rw (lt-ltb h (length (targets hs first number)) (omega (arith, count)), rows_from_at (target_at hs) first number h 0 l)

  -- where there is no handler h
  pub caught_on : (h : ℕ) {m : Move} → number ≤ h → m ≡ move (part c []) o go_on → m ≡ move (part c (targets hs first number)) o (caught h)
  unfolding move
  caught_on h l g = g ∙ rw (le-ltb h (length (targets hs first number)) (omega (arith, count)))

-- by the choice that the code was given
module _ (c ts : List ℕ) (o : ℕ) {ch : moves.Choice} {m : Move} where
  pub by_on : ch ≡ GoOn → m ≡ move (part c []) o go_on → m ≡ move (part c ts) o (choice_of ch)
  unfolding move
  by_on e g = g ∙ ap (λ (k : moves.Choice). move (part c ts) o (choice_of k)) (sym e)

  pub by_jump : ch ≡ Jump → m ≡ move (part c []) o jump → m ≡ move (part c ts) o (choice_of ch)
  unfolding move
  by_jump e g = g ∙ ap (λ (k : moves.Choice). move (part c ts) o (choice_of k)) (sym e)

  pub by_enter : ch ≡ Enter → m ≡ move (part c []) o enter → m ≡ move (part c ts) o (choice_of ch)
  unfolding move
  by_enter e g = g ∙ ap (λ (k : moves.Choice). move (part c ts) o (choice_of k)) (sym e)

pub by_leave : (c ts : List ℕ) (o : ℕ) {ch : moves.Choice} → ch ≡ Leave → gone ≡ move (part c ts) o (choice_of ch)
unfolding move
by_leave c ts o e = ap (λ (k : moves.Choice). move (part c ts) o (choice_of k)) (sym e)
