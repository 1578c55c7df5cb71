-- The digits of an opcode byte: above 118, each of them, and the row that they are of.
-- Assumes nothing.
use Prim.Native.Nat.{ℕ, ◌+◌, ◌*◌, ◌/◌, ◌≤◌, ◌<◌}
use native.Mathlib.Omega.{arith}
use mathlib.Core.Path.{◌≡◌, refl, sym, ap, ◌∙◌}
use mathlib.Core.Bool.{Bool, true, false, cond}
use mathlib.Core.List.{[]}
use lib.Dec.{eqb, eqb→eq}
use lib.ListN.{get_or-eq_default}
use borrow.Author.Tests.{le-ltb}
use Rattle.format.specs.Insn.{Kind, Z, BB, B, BS, BSS, BBB, S, W, Role, reg, pool, sym as symbol, child, plain, Flow, on, ends, jumps, may, NOP, Row, op}
use Rattle.format.specs.Insn.{table, name, kind, flow, row, size}
use Rattle.format.specs.Sizes.{kind_number, among, have_first, have_second}
use Rattle.format.specs.Registers.{Form, own, pair, triple, send, sendb, super, array, array2, push, post, hash, hashadd, comments, form}
use Rattle.format.proofs.Table.{by_test}
use Rattle.format.proofs.Prefix.{at_most_one, total_small}
use Rattle.opcode.specs.Digits.{first_role, second_role, third_role, role_number, role_at, first_by, first_number, form_number, flag_inside, flag_last, flow_at, kind_at}
use Rattle.opcode.specs.Digits.{size_in, first_in, second_in, inside_in, last_in, kind_in, first_byte_in, second_byte_in, third_in, form_in}
use Rattle.opcode.specs.Digits.{first_byte, second_byte, row_digits, instruction, digits_of}

pub above : (b : ℕ) → 119 ≤ b → row_digits 0 (op NOP Z [] on) ≡ digits_of b
unfolding row table
above b n = rw (le-ltb b 119 n) (ap (row_digits 0) (sym (get_or-eq_default table (op NOP Z [] on) {n = b} n)))

pub role_small : (x : Role) → role_number x < 5
role_small plain = omega arith
role_small reg = omega arith
role_small pool = omega arith
role_small symbol = omega arith
role_small child = omega arith

pub inside_small : (w : Flow) → flag_inside w < 8
inside_small on = omega arith
inside_small ends = omega arith
inside_small jumps = omega arith
inside_small may = omega arith

pub last_small : (w : Flow) → flag_last w < 8
last_small on = omega arith
last_small ends = omega arith
last_small jumps = omega arith
last_small may = omega arith

kind_small : (k : Kind) → kind_number k < 8
kind_small Z = omega arith
kind_small BB = omega arith
kind_small B = omega arith
kind_small BS = omega arith
kind_small BSS = omega arith
kind_small BBB = omega arith
kind_small S = omega arith
kind_small W = omega arith

first_by_lem : (f : Form) (x : ℕ) → x < 5 → first_by f x < 7
first_by_lem own x h = omega arith
first_by_lem pair x h = omega arith
first_by_lem triple x h = omega arith
first_by_lem send x h = omega arith
first_by_lem sendb x h = omega arith
first_by_lem super x h = omega arith
first_by_lem array x h = omega arith
first_by_lem array2 x h = omega arith
first_by_lem push x h = omega arith
first_by_lem post x h = omega arith
first_by_lem hash x h = omega arith
first_by_lem hashadd x h = omega arith

pub first_small : (r : Row) → first_number r < 7
first_small r = first_by_lem (form (name r)) (role_number (first_role r)) (role_small (first_role r))

-- each digit: d are the digits of an instruction of n bytes whose opcode has the row r
module _ {d n : ℕ} (r : Row) (e : d ≡ row_digits n r) (s : n < 64) where
  pub size_digits : size_in d ≡ n
  size_digits = omega arith

  pub first_digit : first_in d ≡ first_number r
  first_digit = omega (arith, first_small r)

  pub second_digit : second_in d ≡ role_number (second_role r)
  second_digit = omega (arith, first_small r, role_small (second_role r))

  pub inside_digit : inside_in d ≡ flag_inside (flow r)
  inside_digit = omega (arith, first_small r, role_small (second_role r), inside_small (flow r))

  pub last_digit : last_in d ≡ flag_last (flow r)
  last_digit = omega (arith, first_small r, role_small (second_role r), inside_small (flow r), last_small (flow r))

  pub kind_digit : kind_in d ≡ kind_number (kind r)
  kind_digit = omega (arith, first_small r, role_small (second_role r), inside_small (flow r), last_small (flow r), kind_small (kind r))

  pub first_byte_digit : first_byte_in d ≡ first_byte (kind r)
  first_byte_digit =
      omega (
        arith,
        first_small r,
        role_small (second_role r),
        inside_small (flow r),
        last_small (flow r),
        kind_small (kind r),
        at_most_one (among have_first (kind r)),
      )

  pub second_byte_digit : second_byte_in d ≡ second_byte (kind r)
  second_byte_digit =
      omega (
        arith,
        first_small r,
        role_small (second_role r),
        inside_small (flow r),
        last_small (flow r),
        kind_small (kind r),
        at_most_one (among have_first (kind r)),
        at_most_one (among have_second (kind r)),
      )

  -- what stands above those
  upper : d / 134217728 ≡ role_number (third_role r) + 8 * form_number (form (name r))
  upper =
      omega (
        arith,
        first_small r,
        role_small (second_role r),
        inside_small (flow r),
        last_small (flow r),
        kind_small (kind r),
        at_most_one (among have_first (kind r)),
        at_most_one (among have_second (kind r)),
      )

  pub third_digit : third_in d ≡ role_number (third_role r)
  third_digit = omega (arith, upper, role_small (third_role r))

  pub form_digits : form_in d ≡ form_number (form (name r))
  form_digits = omega (arith, upper, role_small (third_role r))

-- and what it is the number of
pub role_back : (x : Role) → role_at (role_number x) ≡ x
role_back plain = refl
role_back reg = refl
role_back pool = refl
role_back symbol = refl
role_back child = refl

-- a first operand that is tested with what stands behind it is a register: one test of the table
same_role : Role → Role → Bool
same_role x y = eqb (role_number x) (role_number y)

first_test : Row → Bool
first_test r = same_role (role_at (first_number r)) (first_role r)

pub role_same : (x y : Role) → role_number x ≡ role_number y → x ≡ y
role_same x y e = sym (role_back x) ∙ ap role_at e ∙ role_back y

pub first_back : (b : ℕ) → role_at (first_number (row b)) ≡ first_role (row b)
unfolding first_test same_role comments form table row
first_back b = role_same _ _ (eqb→eq _ _ (by_test first_test tt b))

flow_back : (w : Flow) → flow_at (flag_inside w) (flag_last w) ≡ w
flow_back on = refl
flow_back ends = refl
flow_back jumps = refl
flow_back may = refl

kind_back : (k : Kind) → kind_at (kind_number k) ≡ k
kind_back Z = refl
kind_back BB = refl
kind_back B = refl
kind_back BS = refl
kind_back BSS = refl
kind_back BBB = refl
kind_back S = refl
kind_back W = refl

pub few : (b : ℕ) → cond (instruction b) (size b) 0 < 64
few b = go (instruction b)
  where
    go : (x : Bool) → cond x (size b) 0 < 64
    go true = omega (arith, total_small 1 1 (kind (row b)) (omega arith) (omega arith))
    go false = omega arith

-- the row of an opcode byte, from its digits
module _ (b : ℕ) {d : ℕ} (e : d ≡ digits_of b) where
  pub row_first : role_at (first_in d) ≡ first_role (row b)
  row_first = ap role_at (first_digit (row b) e (few b)) ∙ first_back b

  pub row_second : role_at (second_in d) ≡ second_role (row b)
  row_second = ap role_at (second_digit (row b) e (few b)) ∙ role_back (second_role (row b))

  pub row_third : role_at (third_in d) ≡ third_role (row b)
  row_third = ap role_at (third_digit (row b) e (few b)) ∙ role_back (third_role (row b))

  pub row_flow : flow_at (inside_in d) (last_in d) ≡ flow (row b)
  row_flow = rw (inside_digit (row b) e (few b), last_digit (row b) e (few b)) (flow_back (flow (row b)))

  pub row_kind : kind_at (kind_in d) ≡ kind (row b)
  row_kind = ap kind_at (kind_digit (row b) e (few b)) ∙ kind_back (kind (row b))

  -- no size, no instruction
  pub no_size : size_in d ≡ 0 → false ≡ instruction b
  no_size z = go (instruction b) refl
    where
      go : (x : Bool) → instruction b ≡ x → false ≡ x
      go false q = refl
      go true q = let w : size_in d ≡ size b = size_digits (row b) e (few b) ∙ rw q in absurd (omega arith)

  pub some_size : (size_in d ≡ 0 → ⊥) → instruction b ≡ true
  some_size z = go (instruction b) refl
    where
      go : (x : Bool) → instruction b ≡ x → x ≡ true
      go true q = refl
      go false q = absurd (z (size_digits (row b) e (few b) ∙ rw q))

  pub size_is : instruction b ≡ true → size_in d ≡ size b
  size_is q = size_digits (row b) e (few b) ∙ rw q
