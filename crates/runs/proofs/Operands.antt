-- Operands that have a role, by their places behind the opcode: what 17 tests there, and the child that they number.
-- Assumes nothing.
use Prim.Native.Nat.{ℕ, ◌+◌}
use mathlib.Core.Path.{◌≡◌, refl, sym, ap, ◌∙◌}
use mathlib.Core.Logic.{◌⊎◌, inl, inr}
use mathlib.Core.Bool.{Bool, true, false, ◌&&◌, ◌||◌, not, cond}
use mathlib.Core.Option.{Option, none, some}
use mathlib.Core.List.{List, [], ◌∷◌}
use lib.Dec.{T, eqb, eqb→eq}
use lib.Ieee.Bits.{is_false}
use lib.ListN.{get_or}
use Rattle.format.specs.Bytes.{byte}
use Rattle.format.specs.Insn.{Role, reg, pool, sym as symbol, child, plain, Row, fields_by, kind, roles, table, row}
use Rattle.format.specs.Insn.{widens_first, widens_second, first_width, second_width, operand, operands, opcode, row_at, fields_at, operands_at}
use Rattle.format.specs.Pattern.{Record}
use Rattle.format.specs.Exam.{below, all_below, operands_below}
use Rattle.format.specs.Run.{is_child, child_operand}
use Rattle.runs.specs.Places.{first_place, second_place, third_place}
use Rattle.format.proofs.Table.{both, by_test}

unfoldable pub numbers : Role → Bool
numbers reg = true
numbers pool = true
numbers symbol = true
numbers child = true
numbers plain = false

plain_only : (x : Role) → T (not (numbers x)) → x ≡ plain
unfolding numbers
plain_only reg t = absurd t
plain_only pool t = absurd t
plain_only symbol t = absurd t
plain_only child t = absurd t
plain_only plain t = refl

-- the role of operand i of the instruction at o; one that it lacks is plain
abbrev pub role_in : List ℕ → ℕ → ℕ → Role
role_in c o i = get_or (roles (row_at c o)) i plain

-- Operands of other widths: us are the widths ws up to the last operand that has a role.
none_number : List Role → Bool
none_number [] = true
none_number (x ∷ xs) = not (numbers x) && none_number xs

agree : List Role → List ℕ → List ℕ → Bool
agree [] ws us = true
agree (x ∷ xs) [] us = false
agree (x ∷ xs) (w ∷ ws) [] = none_number (x ∷ xs)
agree (x ∷ xs) (w ∷ ws) (u ∷ us) = none_number (x ∷ xs) || eqb w u && agree xs ws us

or_case : (a b : Bool) → T (a || b) → T a ⊎ T b
or_case true b t = inl tt
or_case false b t = inr t

-- an operand that has a role is the first, of x bytes, the second, of y, or the third, of one: one test of the table for each x and y
widths_test : ℕ → ℕ → Row → Bool
widths_test x y r = agree (roles r) (fields_by x y (kind r)) (x ∷ y ∷ 1 ∷ [])

widths_all : (u v : Bool) (b : ℕ) → T (widths_test (cond u 2 1) (cond v 2 1) (row b))
unfolding widths_test agree none_number numbers table row
widths_all true true b = by_test (widths_test 2 2) tt b
widths_all true false b = by_test (widths_test 2 1) tt b
widths_all false true b = by_test (widths_test 1 2) tt b
widths_all false false b = by_test (widths_test 1 1) tt b

-- What f asks of operands by their roles, one behind the other. It asks nothing of a plain one.
module _ {A : Type 0} (f : Role → ℕ → A → A) (z : A) (skip : (v : ℕ) (a : A) → f plain v a ≡ a) where
  asked : List Role → List ℕ → A
  asked [] vs = z
  asked (x ∷ xs) [] = z
  asked (x ∷ xs) (v ∷ vs) = f x v (asked xs vs)

  none_asked : (xs : List Role) (vs : List ℕ) → T (none_number xs) → asked xs vs ≡ z
  unfolding none_number asked
  none_asked [] vs t = refl
  none_asked (x ∷ xs) [] t = refl
  none_asked (x ∷ xs) (v ∷ vs) t = rw (plain_only x (search both)) (skip v (asked xs vs) ∙ none_asked xs vs (search both))

  asked_agree : (xs : List Role) (ws us c : List ℕ) (i : ℕ) → T (agree xs ws us) → asked xs (operands ws c i) ≡ asked xs (operands us c i)
  unfolding agree asked operands
  asked_agree [] ws us c i t = refl
  asked_agree (x ∷ xs) [] us c i t = absurd t
  asked_agree (x ∷ xs) (w ∷ ws) [] c i t = none_asked (x ∷ xs) (operands (w ∷ ws) c i) t
  asked_agree (x ∷ xs) (w ∷ ws) (u ∷ us) c i t = go (or_case (none_number (x ∷ xs)) (eqb w u && agree xs ws us) t) (asked_agree xs ws us c (i + u))
    where
      go : T (none_number (x ∷ xs)) ⊎ T (eqb w u && agree xs ws us)
          → (T (agree xs ws us) → asked xs (operands ws c (i + u)) ≡ asked xs (operands us c (i + u)))
          → asked (x ∷ xs) (operands (w ∷ ws) c i) ≡ asked (x ∷ xs) (operands (u ∷ us) c i)
      go (inl n) same = none_asked (x ∷ xs) (operands (w ∷ ws) c i) n ∙ sym (none_asked (x ∷ xs) (operands (u ∷ us) c i) n)
      go (inr e) same = rw (eqb→eq w u (search both), same (search both))

  asked_three : (xs : List Role) (u v w : ℕ) → asked xs (u ∷ v ∷ w ∷ []) ≡ f (get_or xs 0 plain) u (f (get_or xs 1 plain) v (f (get_or xs 2 plain) w z))
  unfolding asked
  asked_three [] u v w = sym (skip u _ ∙ skip v _ ∙ skip w z)
  asked_three (x ∷ []) u v w = ap (f x u) (sym (skip v _ ∙ skip w z))
  asked_three (x ∷ y ∷ []) u v w = ap (λ (a : A). f x u (f y v a)) (sym (skip w z))
  asked_three (x ∷ y ∷ q ∷ []) u v w = refl
  asked_three (x ∷ y ∷ q ∷ p ∷ xs) u v w = refl

  asked_places : (c : List ℕ) (o : ℕ)
      → asked (roles (row_at c o)) (operands_at c o)
      ≡ f (role_in c o 0) (operand (first_width (byte c o)) c (first_place c o))
      (f (role_in c o 1) (operand (second_width (byte c o)) c (second_place c o)) (f (role_in c o 2) (byte c (third_place c o)) z))
  unfolding widths_test operands
  asked_places c o =
      let b = byte c o in
      let xs = roles (row_at c o) in
      let x = first_width b in
      let y = second_width b in
      asked_agree xs (fields_at c o) (x ∷ y ∷ 1 ∷ []) c (first_place c o) (widths_all (widens_first b) (widens_second b) (opcode c o))
      ∙ asked_three xs (operand x c (first_place c o)) (operand y c (second_place c o)) (byte c (third_place c o))

-- 17
module _ (r : Record) where
  and_below : Role → ℕ → Bool → Bool
  and_below x v a = below r x v && a

  plain_below : (v : ℕ) (a : Bool) → and_below plain v a ≡ a
  unfolding and_below below
  plain_below v a = refl

  below_asked : (xs : List Role) (vs : List ℕ) → all_below r xs vs ≡ asked and_below true plain_below xs vs
  unfolding all_below and_below asked
  below_asked [] vs = refl
  below_asked (x ∷ xs) [] = refl
  below_asked (x ∷ xs) (v ∷ vs) = ap (λ (a : Bool). below r x v && a) (below_asked xs vs)

  pub below_places : (o : ℕ)
      → let c = r.code in
      operands_below r o
      ≡ (below r (role_in c o 0) (operand (first_width (byte c o)) c (first_place c o))
      && (below r (role_in c o 1) (operand (second_width (byte c o)) c (second_place c o)) && (below r (role_in c o 2) (byte c (third_place c o)) && true)))
  unfolding operands_below and_below
  below_places o =
      let c = r.code in
      below_asked (roles (row_at c o)) (operands_at c o) ∙ asked_places and_below true plain_below c o

-- the child that an operand v of a role numbers, or what others do
abbrev pub child_or : Role → ℕ → Option ℕ → Option ℕ
child_or x v a = cond (is_child x) (some v) a

child_asked : (xs : List Role) (vs : List ℕ) → child_operand xs vs ≡ asked child_or none (λ v a. refl) xs vs
unfolding child_operand asked
child_asked [] vs = refl
child_asked (x ∷ xs) [] = refl
child_asked (x ∷ xs) (v ∷ vs) = ap (child_or x v) (child_asked xs vs)

-- a first operand numbers no child: one test of the table
first_test : Row → Bool
first_test r = not (is_child (get_or (roles r) 0 plain))

first_all : (b : ℕ) → T (first_test (row b))
unfolding first_test table row
first_all b = by_test first_test tt b

pub child_places : (c : List ℕ) (o : ℕ)
    → child_operand (roles (row_at c o)) (operands_at c o)
    ≡ child_or (role_in c o 1) (operand (second_width (byte c o)) c (second_place c o)) (child_or (role_in c o 2) (byte c (third_place c o)) none)
unfolding first_test
child_places c o =
    child_asked (roles (row_at c o)) (operands_at c o)
    ∙ asked_places child_or none (λ v a. refl) c o
    ∙ rw (is_false (is_child (role_in c o 0)) (first_all (opcode c o)))
