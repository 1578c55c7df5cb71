-- The registers that an instruction names, by the operands that the code reads and the sum in the digits of its opcode.
-- Assumes nothing.
use Prim.Native.Nat.{ℕ, suc, ◌+◌, ◌-◌, ◌*◌, ◌≤◌}
use native.Mathlib.Omega.{arith}
use mathlib.Core.Path.{◌≡◌, refl, sym, ap, ◌∙◌}
use mathlib.Core.Bool.{Bool, true, false, ◌&&◌, ◌||◌}
use mathlib.Core.List.{List}
use lib.Dec.{T, eqb, eqb→eq, leb, ltb}
use lib.ListN.{get_or}
use borrow.Author.Tests.{lt-ltb, le-ltb, le-leb, ltb-true, ltb-false, leb-true, leb-false}
use Rattle.format.specs.Bytes.{byte}
use Rattle.format.specs.Insn.{Kind, Z, BB, B, BS, BSS, BBB, S, W, Role, reg, pool, sym as symbol, child, plain}
use Rattle.format.specs.Insn.{Row, fields_by, name, kind, table, row, first_width, second_width, operand, operands, opcode, row_at}
use Rattle.format.specs.Sizes.{kind_number, among, have_first, have_second}
use Rattle.format.specs.Registers.{Form, own, pair, triple, send, sendb, super, array, array2, push, post, hash, hashadd}
use Rattle.format.specs.Registers.{range, arguments, named, comments, form}
use Rattle.format.specs.Pattern.{Record}
use Rattle.format.specs.Exam.{below, range_below, bounded}
use Rattle.format.proofs.Table.{both, by_test}
use Rattle.runs.specs.Places.{first_place, second_place, third_place}
use Rattle.runs.proofs.Operands.{below_places}
use Rattle.opcode.specs.Digits.{first_role, second_role, third_role, role_number, first_by, form_number, end_by, digits_of}
use Rattle.opcode.proofs.Numbers.{role_same, few, first_digit, second_digit, third_digit, form_digits}
use Rattle.flags.specs.Flags.{Limits, bare, within, below_by}

-- The operands that a form looks at are bytes that a prefix can widen or a third byte, and what it counts from is a register: one test of the table.
is_reg : Role → Bool
is_reg x = eqb (role_number x) (role_number reg)

of_first : Row → Bool
of_first r = is_reg (first_role r) && among have_first (kind r)

has_third : Row → Bool
has_third r = eqb (kind_number (kind r)) (kind_number BBB)

suits : Form → Row → Bool
suits own r = true
suits pair r = of_first r
suits triple r = of_first r
suits send r = of_first r && has_third r
suits sendb r = of_first r && has_third r
suits super r = of_first r && among have_second (kind r)
suits array r = of_first r && among have_second (kind r)
suits array2 r = is_reg (second_role r) && among have_second (kind r) && has_third r
suits push r = of_first r && among have_second (kind r)
suits post r = of_first r && has_third r
suits hash r = of_first r && among have_second (kind r)
suits hashadd r = of_first r && among have_second (kind r)

suiting : Row → Bool
suiting r = suits (form (name r)) r

suit_all : (b : ℕ) → T (suiting (row b))
unfolding suiting suits of_first has_third is_reg comments form table row
suit_all b = by_test suiting tt b

-- the operands of an instruction of kind k, x and y the bytes of those that a prefix can widen
module _ (x y : ℕ) (c : List ℕ) (i : ℕ) where
  operand_of : Kind → ℕ → ℕ
  operand_of k n = get_or (operands (fields_by x y k) c i) n 0

  first_of : (k : Kind) → T (among have_first k) → operand_of k 0 ≡ operand x c i
  unfolding operand_of operands
  first_of Z t = absurd t
  first_of BB t = refl
  first_of B t = refl
  first_of BS t = refl
  first_of BSS t = refl
  first_of BBB t = refl
  first_of S t = absurd t
  first_of W t = absurd t

  second_of : (k : Kind) → T (among have_second k) → operand_of k 1 ≡ operand y c (i + x)
  unfolding operand_of operands
  second_of Z t = absurd t
  second_of BB t = refl
  second_of B t = absurd t
  second_of BS t = absurd t
  second_of BSS t = absurd t
  second_of BBB t = refl
  second_of S t = absurd t
  second_of W t = absurd t

  third_of : (k : Kind) → T (eqb (kind_number k) (kind_number BBB)) → operand_of k 2 ≡ byte c (i + x + y)
  unfolding operand_of operands
  third_of Z t = absurd t
  third_of BB t = absurd t
  third_of B t = absurd t
  third_of BS t = absurd t
  third_of BSS t = absurd t
  third_of BBB t = refl
  third_of S t = absurd t
  third_of W t = absurd t

  -- what a form names by the operands that it looks at
  named_places : (f : Form) (r : Row) → T (suits f r)
      → named f (operand_of (kind r) 0) (operand_of (kind r) 1) (operand_of (kind r) 2) ≡ named f (operand x c i) (operand y c (i + x)) (byte c (i + x + y))
  unfolding suits of_first has_third
  named_places own r t = refl
  named_places pair r t = rw (first_of (kind r) (search both))
  named_places triple r t = rw (first_of (kind r) (search both))
  named_places send r t = rw (first_of (kind r) (search both), third_of (kind r) (search both))
  named_places sendb r t = rw (first_of (kind r) (search both), third_of (kind r) (search both))
  named_places super r t = rw (first_of (kind r) (search both), second_of (kind r) (search both))
  named_places array r t = rw (first_of (kind r) (search both), second_of (kind r) (search both))
  named_places array2 r t = rw (second_of (kind r) (search both), third_of (kind r) (search both))
  named_places push r t = rw (first_of (kind r) (search both), second_of (kind r) (search both))
  named_places post r t = rw (first_of (kind r) (search both), third_of (kind r) (search both))
  named_places hash r t = rw (first_of (kind r) (search both), second_of (kind r) (search both))
  named_places hashadd r t = rw (first_of (kind r) (search both), second_of (kind r) (search both))

-- the sum of a form: where it has one, the register behind the last
abbrev end_of : Form → ℕ → ℕ → ℕ → ℕ
end_of own a b c = 0
end_of pair a b c = 0
end_of triple a b c = 0
end_of send a b c = (named send a b c).upto
end_of sendb a b c = (named sendb a b c).upto
end_of super a b c = (named super a b c).upto
end_of array a b c = (named array a b c).upto
end_of array2 a b c = (named array2 a b c).upto
end_of push a b c = (named push a b c).upto
end_of post a b c = (named post a b c).upto
end_of hash a b c = (named hash a b c).upto
end_of hashadd a b c = (named hashadd a b c).upto

summed : (n i j k x y a b c v : ℕ) {t : ℕ} → x * b + y * c ≡ v → n + i * a + j * b + k * c + arguments v ≡ t
    → n + i * a + j * b + k * c + arguments (x * b + y * c) ≡ t
summed n i j k x y a b c v e q = rw e q

sum_is : (f : Form) (a b c : ℕ) → end_by (form_number f) a b c ≡ end_of f a b c
sum_is own a b c = summed 0 0 0 0 0 0 a b c 0 (omega arith) (omega arith)
sum_is pair a b c = summed 0 0 0 0 0 0 a b c 0 (omega arith) (omega arith)
sum_is triple a b c = summed 0 0 0 0 0 0 a b c 0 (omega arith) (omega arith)
sum_is send a b c = summed 1 1 0 0 0 1 a b c c (omega arith) (omega arith)
sum_is sendb a b c = summed 2 1 0 0 0 1 a b c c (omega arith) (omega arith)
sum_is super a b c = summed 2 1 0 0 1 0 a b c b (omega arith) (omega arith)
sum_is array a b c = summed 0 1 1 0 0 0 a b c 0 (omega arith) (omega arith)
sum_is array2 a b c = summed 0 0 1 1 0 0 a b c 0 (omega arith) (omega arith)
sum_is push a b c = summed 1 1 1 0 0 0 a b c 0 (omega arith) (omega arith)
sum_is post a b c = summed 1 1 0 1 0 0 a b c 0 (omega arith) (omega arith)
sum_is hash a b c = summed 0 1 2 0 0 0 a b c 0 (omega arith) (omega arith)
sum_is hashadd a b c = summed 1 1 2 0 0 0 a b c 0 (omega arith) (omega arith)

-- a range that begins at or below nregs is below it exactly when it ends so
module _ (r : Record) where
  range_ends : (x y : ℕ) → x ≤ r.nregs → range_below r (range x y) ≡ leb y r.nregs
  unfolding range_below
  range_ends x y h = go (leb y x) refl
    where
      go : (b : Bool) → leb y x ≡ b → (b || leb y r.nregs) ≡ leb y r.nregs
      go true e = sym (le-leb y r.nregs (omega (arith, leb-true y x e)))
      go false e = refl

  -- R[a] to R[a+m]
  near : (a m : ℕ) → ltb a (r.nregs - m) ≡ (ltb a r.nregs && range_below r (range a (a + suc m)))
  near a m = go (ltb a r.nregs) refl
    where
      go : (b : Bool) → ltb a r.nregs ≡ b → ltb a (r.nregs - m) ≡ (b && range_below r (range a (a + suc m)))
      go false e = le-ltb a (r.nregs - m) (omega (arith, ltb-false a r.nregs e))
      go true e = rest (leb (a + suc m) r.nregs) refl ∙ sym (range_ends a (a + suc m) (omega (arith, ltb-true a r.nregs e)))
        where
          rest : (b : Bool) → leb (a + suc m) r.nregs ≡ b → ltb a (r.nregs - m) ≡ leb (a + suc m) r.nregs
          rest true q = lt-ltb a (r.nregs - m) (omega (arith, leb-true (a + suc m) r.nregs q)) ∙ sym q
          rest false q = le-ltb a (r.nregs - m) (omega (arith, leb-false (a + suc m) r.nregs q)) ∙ sym q

-- tests in another order: one behind the others, and one beside the first
behind : (x y z p q : Bool) → (x ≡ true → y ≡ true → p ≡ q) → (x && (y && (z && p))) ≡ (x && (y && (z && true)) && q)
behind false y z p q e = refl
behind true false z p q e = refl
behind true true false p q e = refl
behind true true true p q e = e refl refl

beside : (x y z q : Bool) → (x && q && (y && (z && true))) ≡ (x && (y && (z && true)) && q)
beside false y z q = refl
beside true true true true = refl
beside true true true false = refl
beside true true false true = refl
beside true true false false = refl
beside true false z true = refl
beside true false z false = refl

within_is : (l c : List ℕ) (x : Role) (v : ℕ) → within l (role_number x) v ≡ below (bare l c) x v
unfolding below
within_is l c reg v = refl
within_is l c pool v = refl
within_is l c symbol v = refl
within_is l c child v = refl
within_is l c plain v = refl

register_below : (l c : List ℕ) (x : Role) (v : ℕ) → T (is_reg x) → below (bare l c) x v ≡ ltb v (bare l c).nregs
unfolding is_reg below
register_below l c x v t = let e = role_same x reg (eqb→eq _ _ t) in rw e

-- 17 at an instruction whose opcode has the row q, with y and z the tests of its second and third operands
module _ {l : List ℕ} (h : Limits l) (code : List ℕ) (q : Row) (a b c : ℕ) (y z : Bool) where
  abbrev r : Record
  r = bare l code

  tests : Form → Bool
  tests f = within l (first_by f (role_number (first_role q))) a && (y && (z && leb (end_by (form_number f) a b c) (get_or l 1 0)))

  counts : Form → Bool
  counts f = below r (first_role q) a && (y && (z && true)) && range_below r (named f a b c)

  -- a form that has a sum
  by_sum : (f : Form) → first_by f (role_number (first_role q)) ≡ role_number (first_role q) → end_of f a b c ≡ (named f a b c).upto
      → (below r (first_role q) a ≡ true → y ≡ true → (named f a b c).from ≤ r.nregs) → tests f ≡ counts f
  unfolding tests counts
  by_sum f e u g =
      rw (e, within_is l code (first_role q) a)
      (behind (below r (first_role q) a) y z (leb (end_by (form_number f) a b c) r.nregs) (range_below r (named f a b c))
      (λ x p. ap (λ (n : ℕ). leb n r.nregs) (sum_is f a b c ∙ u) ∙ sym (range_ends r (named f a b c).from (named f a b c).upto (g x p))))

  -- that counts from the first operand
  from_first : (f : Form) → T (is_reg (first_role q)) → first_by f (role_number (first_role q)) ≡ role_number (first_role q) → end_of f a b c ≡ (named f a b c).upto
      → (named f a b c).from ≤ suc a → tests f ≡ counts f
  from_first f t e u g = by_sum f e u (λ x p. omega (arith, ltb-true a r.nregs (sym (register_below l code (first_role q) a t) ∙ x)))

  -- and one whose m registers behind the first operand are tested with it
  with_first : (f : Form) (m : ℕ) → T (is_reg (first_role q)) → within l (first_by f (role_number (first_role q))) a ≡ ltb a (r.nregs - m) → end_of f a b c ≡ 0
      → named f a b c ≡ range a (a + suc m) → tests f ≡ counts f
  unfolding tests counts
  with_first f m t e u n =
      rw (e, sum_is f a b c, u, le-leb 0 (get_or l 1 0) (omega arith), n, register_below l code (first_role q) a t, near r a m) (beside (ltb a r.nregs) y z (range_below r (range a (a + suc m))))

  by_form : (f : Form) → T (suits f q) → (T (is_reg (second_role q)) → y ≡ ltb b r.nregs) → tests f ≡ counts f
  unfolding suits of_first
  by_form own t s = by_sum own refl refl (λ x p. omega arith)
  by_form pair t s = with_first pair 1 (search both) (ap (ltb a) h.pair_limit) refl refl
  by_form triple t s = with_first triple 2 (search both) (ap (ltb a) h.triple_limit) refl refl
  by_form send t s = from_first send (search both) refl refl (omega arith)
  by_form sendb t s = from_first sendb (search both) refl refl (omega arith)
  by_form super t s = from_first super (search both) refl refl (omega arith)
  by_form array t s = from_first array (search both) refl refl (omega arith)
  by_form array2 t s = by_sum array2 refl refl (λ x p. omega (arith, ltb-true b r.nregs (sym (s (search both)) ∙ p)))
  by_form push t s = from_first push (search both) refl refl (omega arith)
  by_form post t s = from_first post (search both) refl refl (omega arith)
  by_form hash t s = from_first hash (search both) refl refl (omega arith)
  by_form hashadd t s = from_first hashadd (search both) refl refl (omega arith)

-- 17 at the instruction at o, by the operands that the code reads
module _ {l : List ℕ} (h : Limits l) (c : List ℕ) (o : ℕ) {d : ℕ} (e : d ≡ digits_of (opcode c o)) where
  pub bounded_by : below_by l d (operand (first_width (byte c o)) c (first_place c o)) (operand (second_width (byte c o)) c (second_place c o)) (byte c (third_place c o))
      ≡ bounded (bare l c) o
  unfolding bounded suiting tests counts operand_of
  bounded_by =
      let r = bare l c in
      let q = row_at c o in
      let f = form (name q) in
      let x = first_width (byte c o) in
      let y = second_width (byte c o) in
      let a = operand x c (first_place c o) in
      let b = operand y c (second_place c o) in
      let t = byte c (third_place c o) in
      let n = few (opcode c o) in
      let u = suit_all (opcode c o) in
      rw (first_digit q e n, second_digit q e n, third_digit q e n, form_digits q e n)
      (rw (within_is l c (second_role q) b, within_is l c (third_role q) t, below_places r o, named_places x y c (first_place c o) f q u)
      (by_form h c q a b t (below r (second_role q) b) (below r (third_role q) t) f u (register_below l c (second_role q) b)))
