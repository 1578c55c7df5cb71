-- The test of 17 against its words: each operand is below the count that its role names.
-- Assumes nothing.
use Prim.Native.Nat.{ℕ, zero, suc, ◌+◌, ◌<◌, suc-le-suc}
use native.Mathlib.Nat.{le_of_suc-le-suc}
use native.Mathlib.Omega.{arith}
use mathlib.Core.Path.{◌≡◌, refl, sym, ◌∙◌, subst}
use mathlib.Core.Bool.{Bool, true, false, ◌&&◌, not}
use mathlib.Core.List.{List, [], ◌∷◌}
use lib.Dec.{T, ltb→lt, nltb→le}
use lib.ListN.{length, get_or}
use Rattle.format.specs.Bytes.{byte}
use Rattle.format.specs.Insn.{Role, reg, pool, sym as symbol, child, plain, kind, roles, lead, first_width, second_width, opcode, row_at, fields_at, operands_at}
use Rattle.format.specs.Pattern.{Record}
use Rattle.format.specs.Exam.{Below, below, all_below}
use Rattle.format.proofs.Table.{both, roles_length}
use Rattle.format.proofs.Prefix.{fields_length}
use Rattle.runs.proofs.Table.{operands_length}

-- an instruction has a role for each operand
pub args_fit : (c : List ℕ) (o : ℕ) → length (roles (row_at c o)) ≡ length (operands_at c o)
args_fit c o =
    let b = byte c o in
    roles_length (opcode c o) ∙ sym (operands_length (fields_at c o) c (o + lead b + 1) ∙ fields_length (first_width b) (second_width b) (kind (row_at c o)))

below_fact : (r : Record) (x : Role) (v : ℕ) → T (below r x v) → Below r x v
unfolding below
below_fact r reg v t = ltb→lt _ _ t
below_fact r pool v t = ltb→lt _ _ t
below_fact r symbol v t = ltb→lt _ _ t
below_fact r child v t = ltb→lt _ _ t
below_fact r plain v t = tt

pub all_below_lem : (r : Record) (xs : List Role) (vs : List ℕ) → T (all_below r xs vs) → length xs ≡ length vs → (i : ℕ) → i < length xs
    → Below r (get_or xs i plain) (get_or vs i 0)
unfolding all_below
all_below_lem r [] vs t e i h = absurd (omega arith)
all_below_lem r (x ∷ xs) [] t e i h = absurd (omega arith)
all_below_lem r (x ∷ xs) (v ∷ vs) t e zero h = below_fact r x v (search both)
all_below_lem r (x ∷ xs) (v ∷ vs) t e (suc i) h = all_below_lem r xs vs (search both) (omega arith) i (le_of_suc-le-suc h)

not_below : (r : Record) (x : Role) (v : ℕ) → T (not (below r x v)) → Below r x v → ⊥
unfolding below
not_below r reg v t b = omega (arith, nltb→le v r.nregs t)
not_below r pool v t b = omega (arith, nltb→le v r.npool t)
not_below r symbol v t b = omega (arith, nltb→le v r.nsyms t)
not_below r child v t b = omega (arith, nltb→le v r.rlen t)
not_below r plain v t b = t

-- where the test fails, an operand is not below
pub record Above (r : Record) (xs : List Role) (vs : List ℕ) : Type 0 where
  pub i : ℕ
  pub given : i < length xs
  pub above : Below r (get_or xs i plain) (get_or vs i 0) → ⊥

pub some_above : (r : Record) (xs : List Role) (vs : List ℕ) → T (not (all_below r xs vs)) → Above r xs vs
unfolding all_below
some_above r [] vs t = absurd t
some_above r (x ∷ xs) [] t = absurd t
some_above r (x ∷ xs) (v ∷ vs) t = go (below r x v) refl t (some_above r xs vs)
  where
    go : (b : Bool) → below r x v ≡ b → T (not (b && all_below r xs vs)) → (T (not (all_below r xs vs)) → Above r xs vs) → Above r (x ∷ xs) (v ∷ vs)
    go true e t ih = let w = ih t in record { i = suc w.i; given = suc-le-suc w.given; above = w.above }
    go false e t ih = record { i = 0; given = omega arith; above = not_below r x v (subst (λ (b : Bool). T (not b)) (sym e) tt) }
