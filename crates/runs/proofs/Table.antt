-- Rules of the table of opcodes, each one computed test.
-- Assumes nothing.
use Prim.Native.Nat.{ℕ, suc, ◌+◌}
use mathlib.Core.Path.{◌≡◌, refl, sym, ap, subst}
use mathlib.Core.Bool.{Bool, true, false, ◌||◌, not, cond}
use mathlib.Core.Option.{some}
use mathlib.Core.List.{List, [], ◌∷◌}
use native.Mathlib.Omega.{arith}
use lib.Dec.{T}
use lib.ListN.{length}
use Rattle.format.specs.Insn.{Role, Flow, on, ends, jumps, may, Row, roles, flow, table, row, operands}
use Rattle.format.specs.Run.{is_child, child_operand}
use Rattle.format.proofs.Table.{by_test}

pub operands_length : (ws : List ℕ) (c : List ℕ) (i : ℕ) → length (operands ws c i) ≡ length ws
unfolding operands
operands_length [] c i = refl
operands_length (w ∷ ws) c i = ap suc (operands_length ws c (i + w))

-- a child opcode goes on to the next offset
any_child : List Role → Bool
any_child [] = false
any_child (x ∷ xs) = is_child x || any_child xs

is_on : Flow → Bool
is_on on = true
is_on ends = false
is_on jumps = false
is_on may = false

child_on_test : Row → Bool
child_on_test r = not (any_child (roles r)) || is_on (flow r)

no_child : (xs : List Role) (vs : List ℕ) (k : ℕ) → T (not (any_child xs)) → child_operand xs vs ≡ some k → ⊥
unfolding any_child child_operand
no_child [] vs k t e = let z : ◌≡◌ {A = ℕ} 0 1 = cc in omega arith
no_child (x ∷ xs) [] k t e = let z : ◌≡◌ {A = ℕ} 0 1 = cc in omega arith
no_child (x ∷ xs) (v ∷ vs) k t e = go (is_child x) t e (no_child xs vs k)
  where
    go : (a : Bool) → T (not (a || any_child xs)) → cond a (some v) (child_operand xs vs) ≡ some k
        → (T (not (any_child xs)) → child_operand xs vs ≡ some k → ⊥) → ⊥
    go true t e later = t
    go false t e later = later t e

on_only : (f : Flow) → T (is_on f) → f ≡ on
unfolding is_on
on_only on t = refl
on_only ends t = absurd t
on_only jumps t = absurd t
on_only may t = absurd t

child_on_all : (b : ℕ) → T (child_on_test (row b))
unfolding any_child is_on child_on_test table row
child_on_all b = by_test child_on_test tt b

pub child_on : (b : ℕ) (vs : List ℕ) (k : ℕ) → child_operand (roles (row b)) vs ≡ some k → flow (row b) ≡ on
unfolding child_on_test
child_on b vs k e = go (any_child (roles (row b))) refl (child_on_all b)
  where
    go : (a : Bool) → any_child (roles (row b)) ≡ a → T (not a || is_on (flow (row b))) → flow (row b) ≡ on
    go true q t = on_only _ t
    go false q t = absurd (no_child (roles (row b)) vs k (subst (λ (a : Bool). T (not a)) (sym q) tt) e)
