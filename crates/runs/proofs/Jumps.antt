-- What the code of a jump needs: where its operand stands, and that in an examined record the sum does not fall below 0.
-- Assumes nothing.
use Prim.Native.Nat.{ℕ, ◌+◌, ◌-◌, ◌≤◌, ◌<◌}
use native.Mathlib.Omega.{arith}
use mathlib.Core.Path.{◌≡◌, sym, ap, ◌∙◌}
use mathlib.Core.Bool.{Bool, true, false, ◌||◌, not}
use mathlib.Core.List.{List}
use lib.Dec.{T, leb→le}
use lib.ListN.{length}
use borrow.Author.Tests.{lt-ltb, le-ltb}
use Rattle.format.specs.Bytes.{byte, u16_at}
use Rattle.format.specs.Insn.{Kind, Z, BB, B, BS, BSS, BBB, S, W, Row, total, fields_by, kind, flow, row, table}
use Rattle.format.specs.Insn.{lead, first_width, second_width, opcode, operands, row_at, fields_at, operands_at, next, last_of, jump, target}
use Rattle.format.specs.Pattern.{lands}
use Rattle.format.specs.Exam.{readable, has_target}
use Rattle.runs.specs.Stack.{Jumps}
use Rattle.format.proofs.Table.{both}
use Rattle.runs.proofs.Begins.{reach_inside}
use Rattle.format.proofs.Table.{by_test}
use Rattle.runs.proofs.Next.{next_at}

-- a jump has kind S or BS: one test of the table
jump_kind : Kind → Bool
jump_kind Z = false
jump_kind BB = false
jump_kind B = false
jump_kind BS = true
jump_kind BSS = false
jump_kind BBB = false
jump_kind S = true
jump_kind W = false

jump_test : Row → Bool
jump_test r = not (has_target (flow r)) || jump_kind (kind r)

jump_all : (b : ℕ) → T (jump_test (row b))
unfolding jump_test jump_kind table row
jump_all b = by_test jump_test tt b

pub if_so : (a b : Bool) → T (not a || b) → T a → T b
if_so true b t u = t
if_so false b t u = absurd u

-- its last operand, whose last byte is the instruction's; n: where the operands begin
last_of_lem : (k : Kind) (x y : ℕ) (c : List ℕ) (n : ℕ) → T (jump_kind k) → last_of (operands (fields_by x y k) c n) ≡ u16_at c (n + total (fields_by x y k) - 2)
unfolding jump_kind operands last_of
last_of_lem Z x y c n t = absurd t
last_of_lem BB x y c n t = absurd t
last_of_lem B x y c n t = absurd t
last_of_lem BS x y c n t = ap (u16_at c) (omega arith)
last_of_lem BSS x y c n t = absurd t
last_of_lem BBB x y c n t = absurd t
last_of_lem S x y c n t = ap (u16_at c) (omega arith)
last_of_lem W x y c n t = absurd t

jump_width : (k : Kind) (x y : ℕ) → T (jump_kind k) → 2 ≤ total (fields_by x y k)
unfolding jump_kind
jump_width Z x y t = absurd t
jump_width BB x y t = absurd t
jump_width B x y t = absurd t
jump_width BS x y t = omega arith
jump_width BSS x y t = absurd t
jump_width BBB x y t = absurd t
jump_width S x y t = omega arith
jump_width W x y t = absurd t

module _ (c : List ℕ) (o : ℕ) (j : T (has_target (flow (row_at c o)))) where
  is_jump : T (jump_kind (kind (row_at c o)))
  unfolding jump_test
  is_jump = if_so (has_target (flow (row_at c o))) (jump_kind (kind (row_at c o))) (jump_all (opcode c o)) j

  pub jump_wide : o + 3 ≤ next c o
  jump_wide = omega (arith, next_at c o, jump_width (kind (row_at c o)) (first_width (byte c o)) (second_width (byte c o)) is_jump)

  pub operand : last_of (operands_at c o) ≡ u16_at c (next c o - 2)
  operand =
      let b = byte c o in
      let e : o + lead b + 1 + total (fields_at c o) - 2 ≡ next c o - 2 = omega (arith, next_at c o) in
      last_of_lem (kind (row_at c o)) (first_width b) (second_width b) c (o + lead b + 1) is_jump ∙ ap (u16_at c) e

  pub target_low : (s : ℕ) → s ≡ u16_at c (next c o - 2) → s < 32768 → next c o + s ≡ target c o
  unfolding target jump
  target_low s e h =
      let q : last_of (operands_at c o) ≡ s = operand ∙ sym e in
      rw (q, lt-ltb s 32768 h) (omega arith)

  pub target_high : (s : ℕ) → s ≡ u16_at c (next c o - 2) → 32768 ≤ s → next c o + s - 65536 ≡ target c o
  unfolding target jump
  target_high s e h =
      let q : last_of (operands_at c o) ≡ s = operand ∙ sym e in
      rw (q, le-ltb s 32768 h)

  pub not_before : (s : ℕ) → s ≡ u16_at c (next c o - 2) → 32768 ≤ s → T (lands c o) → 65536 ≤ next c o + s
  unfolding lands jump
  not_before s e h l =
      let q : last_of (operands_at c o) ≡ s = operand ∙ sym e in
      rw (q, le-ltb s 32768 h) at (leb→le 65536 (jump c o) (search both))

pub readable_whole : (c : List ℕ) (o : ℕ) → T (readable c o) → next c o ≤ length c
unfolding readable
readable_whole c o t = leb→le (next c o) (length c) (search both)

-- the numbers of a jump in a record that passes
pub record Room (c : List ℕ) (o : ℕ) : Type 0 where
  pub inside : o < length c
  pub wide : o + 3 ≤ next c o
  pub whole : next c o ≤ length c

pub room : {c : List ℕ} {o : ℕ} → Jumps c o → Room c o
room {c} {o} j = record { inside = reach_inside c 0 o j.starts; wide = jump_wide c o j.jump; whole = readable_whole c o j.reads }
