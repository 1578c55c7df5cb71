-- The two renderings of the registers that an instruction names agree, for every opcode and all operands.
-- Assumes nothing.
use Prim.Native.Nat.{ℕ, suc, ◌+◌, ◌-◌, ◌*◌, ◌/◌, ◌%◌}
use native.Mathlib.Omega.{arith}
use mathlib.Core.Path.{◌≡◌, refl, sym, ap, ◌∙◌}
use mathlib.Core.Bool.{Bool, true, false, cond}
use mathlib.Core.List.{List, [], ◌∷◌}
use lib.Dec.{eqb, eqb→eq}
use lib.ListN.{get_or}
use Rattle.format.specs.Insn.{Row, name, table, row}
use Rattle.format.specs.Registers.{Range, Form, own, pair, triple, send, sendb, super, array, array2, push, post, hash, hashadd}
use Rattle.format.specs.Registers.{arguments, named, comments, form, count_from, last_of_call, listed, said_of}
use Rattle.format.proofs.Table.{by_test}

-- Each opcode has one form in both: a test that is computed over the table.
index : Form → ℕ
index own = 0
index pair = 1
index triple = 2
index send = 3
index sendb = 4
index super = 5
index array = 6
index array2 = 7
index push = 8
index post = 9
index hash = 10
index hashadd = 11

forms : List Form
forms = own ∷ pair ∷ triple ∷ send ∷ sendb ∷ super ∷ array ∷ array2 ∷ push ∷ post ∷ hash ∷ hashadd ∷ []

form_at : ℕ → Form
form_at n = get_or forms n own

back : (f : Form) → form_at (index f) ≡ f
unfolding index forms form_at
back own = refl
back pair = refl
back triple = refl
back send = refl
back sendb = refl
back super = refl
back array = refl
back array2 = refl
back push = refl
back post = refl
back hash = refl
back hashadd = refl

same_form : Row → Bool
same_form r = eqb (index (form (name r))) (index (said_of (name r)))

pub forms_agree : (b : ℕ) → form (name (row b)) ≡ said_of (name (row b))
unfolding same_form index comments form table row
forms_agree b = sym (back (form (name (row b)))) ∙ ap form_at (eqb→eq _ _ (by_test same_form tt b)) ∙ back (said_of (name (row b)))

-- how many registers a range has
abbrev size_of : Range → ℕ
size_of s = s.upto - s.from

-- and these one by one
abbrev pub in_range : Range → List ℕ
in_range s = count_from s.from (size_of s)

last_is : (a v : ℕ) → last_of_call a v ≡ a + arguments v
last_is a v = go (eqb (v % 16) 15) (eqb (v / 16 % 16) 15) (v % 16) (v / 16 % 16)
  where
    go : (p q : Bool) (n k : ℕ) → a + cond p 1 n + cond q 1 (k + k) ≡ a + (cond p 1 (1 * n) + cond q 1 (2 * k))
    go true true n k = omega arith
    go true false n k = omega arith
    go false true n k = omega arith
    go false false n k = omega arith

-- as many registers are listed as there are in the range
pub listed_is : (f : Form) (a b c : ℕ) → in_range (named f a b c) ≡ listed f a b c
unfolding count_from
listed_is own a b c = refl
listed_is pair a b c =
    let many : size_of (named pair a b c) ≡ 2 = omega arith in
    let next : suc a ≡ a + 1 = omega arith in
    rw (many, next)
listed_is triple a b c =
    let many : size_of (named triple a b c) ≡ 3 = omega arith in
    let next : suc a ≡ a + 1 = omega arith in
    let last : suc (a + 1) ≡ a + 2 = omega arith in
    rw (many, next, last)
listed_is send a b c = let many : size_of (named send a b c) ≡ suc (last_of_call a c) - a = omega (arith, last_is a c) in rw many
listed_is sendb a b c = let many : size_of (named sendb a b c) ≡ suc (last_of_call a c + 1) - a = omega (arith, last_is a c) in rw many
listed_is super a b c = let many : size_of (named super a b c) ≡ suc (last_of_call a b + 1) - a = omega (arith, last_is a b) in rw many
listed_is array a b c = let many : size_of (named array a b c) ≡ b = omega arith in rw many
listed_is array2 a b c = let many : size_of (named array2 a b c) ≡ c = omega arith in rw many
listed_is push a b c = let many : size_of (named push a b c) ≡ suc (a + b) - (a + 1) = omega arith in rw many
listed_is post a b c = let many : size_of (named post a b c) ≡ suc (a + c) - (a + 1) = omega arith in rw many
listed_is hash a b c = let many : size_of (named hash a b c) ≡ suc (a + b * 2 - 1) - (a + 1) = omega arith in rw many
listed_is hashadd a b c = let many : size_of (named hashadd a b c) ≡ suc (a + b * 2) - (a + 1) = omega arith in rw many

pub renderings_agree : (o a b c : ℕ) → in_range (named (form (name (row o))) a b c) ≡ listed (said_of (name (row o))) a b c
renderings_agree o a b c = rw (forms_agree o) (listed_is (said_of (name (row o))) a b c)
