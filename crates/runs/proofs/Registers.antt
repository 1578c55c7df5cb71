-- 17 against its words: each operand is below the count that its role names, and each register named below nregs.
-- Assumes nothing.
use Prim.Native.Nat.{ℕ, ◌-◌, ◌≤◌, ◌<◌}
use native.Mathlib.Omega.{arith}
use mathlib.Core.Path.{◌≡◌, refl, sym, subst}
use mathlib.Core.Logic.{◌⊎◌, inl, inr}
use mathlib.Core.Bool.{Bool, true, false, ◌&&◌, ◌||◌, not}
use lib.Dec.{T, leb, leb→le, nleb→lt}
use lib.ListN.{length, get_or}
use Rattle.format.specs.Insn.{Role, reg, plain, roles, row_at, operands_at}
use Rattle.format.specs.Registers.{Range, registers_at, Names, by_role, by_comment}
use Rattle.format.specs.Pattern.{Record}
use Rattle.format.specs.Exam.{Below, operands_below, range_below, bounded, HighOperand, HighRegister}
use Rattle.format.proofs.Table.{both}
use Rattle.runs.proofs.Roles.{all_below_lem, args_fit, some_above}

-- a range all below nregs, and one that is not
module _ (r : Record) (s : Range) where
  in_range : T (range_below r s) → (x : ℕ) → s.from ≤ x → x < s.upto → x < r.nregs
  unfolding range_below
  in_range t x l h = go (leb s.upto s.from) refl t
    where
      go : (b : Bool) → leb s.upto s.from ≡ b → T (b || leb s.upto r.nregs) → x < r.nregs
      go true e u = absurd (omega (arith, leb→le s.upto s.from (subst T (sym e) tt)))
      go false e u = omega (arith, leb→le s.upto r.nregs u)

  -- its last register
  last_high : T (not (range_below r s)) → (s.from ≤ s.upto - 1) × (s.upto - 1 < s.upto) × (r.nregs ≤ s.upto - 1)
  unfolding range_below
  last_high t = go (leb s.upto s.from) refl t
    where
      go : (b : Bool) → leb s.upto s.from ≡ b → T (not (b || leb s.upto r.nregs))
          → (s.from ≤ s.upto - 1) × (s.upto - 1 < s.upto) × (r.nregs ≤ s.upto - 1)
      go true e u = absurd u
      go false e u =
          let some = nleb→lt s.upto s.from (subst (λ (b : Bool). T (not b)) (sym e) tt) in
          let high = nleb→lt s.upto r.nregs u in
          (omega arith, omega arith, omega arith)

module _ (r : Record) (o : ℕ) where
  pub bounded_operands : T (bounded r o) → T (operands_below r o)
  unfolding bounded
  bounded_operands t = search both

  pub bounded_range : T (bounded r o) → T (range_below r (registers_at r.code o))
  unfolding bounded
  bounded_range t = search both

  module _ (t : T (bounded r o)) where
    pub below_of : (i : ℕ) → i < length (roles (row_at r.code o)) → Below r (get_or (roles (row_at r.code o)) i plain) (get_or (operands_at r.code o) i 0)
    unfolding operands_below
    below_of = all_below_lem r (roles (row_at r.code o)) (operands_at r.code o) (bounded_operands t) (args_fit r.code o)

    pub named_below : (x : ℕ) → Names r.code o x → x < r.nregs
    named_below x (by_role i given e v) = subst (λ (y : ℕ). y < r.nregs) v (as_register (get_or (roles (row_at r.code o)) i plain) e (below_of i given))
      where
        as_register : {y : ℕ} (a : Role) → a ≡ reg → Below r a y → y < r.nregs
        as_register {y} a e b = subst (λ (q : Role). Below r q y) e b
    named_below x (by_comment l h) = in_range r (registers_at r.code o) (bounded_range t) x l h

  pub none_high : T (bounded r o) → HighOperand r o ⊎ HighRegister r o → ⊥
  none_high t (inl h) = h.above (below_of t h.i h.given)
  none_high t (inr h) = h.above (named_below t h.register h.named)

  pub some_high : T (not (bounded r o)) → HighOperand r o ⊎ HighRegister r o
  unfolding bounded operands_below
  some_high t = go (operands_below r o) refl t
    where
      go : (b : Bool) → operands_below r o ≡ b → T (not (b && range_below r (registers_at r.code o))) → HighOperand r o ⊎ HighRegister r o
      go false e u =
          let w = some_above r (roles (row_at r.code o)) (operands_at r.code o) (subst (λ (b : Bool). T (not b)) (sym e) tt) in
          inl (record { i = w.i; given = w.given; above = w.above })
      go true e u =
          let h = last_high r (registers_at r.code o) u in
          inr (record { register = (registers_at r.code o).upto - 1; named = by_comment h.0 h.1; above = λ l. omega (arith, h.2) })
