-- Reading a record's bytes from 0 on, one by one: the place i, with `left` bytes of the instruction before still to pass.
-- Assumes nothing.
use Prim.Native.Nat.{ℕ, zero, suc, ◌+◌, ◌-◌, ◌≤◌, ◌<◌}
use native.Mathlib.Nat.{zero-add, add-zero}
use native.Mathlib.Numerals.{add-one}
use native.Mathlib.Omega.{arith}
use mathlib.Core.Path.{◌≡◌, refl, sym, ◌∙◌}
use mathlib.Core.Bool.{true, false}
use mathlib.Core.List.{List, ◌∷◌}
use lib.ListN.{length, get_or, drop, drop_of_length-le}
use lib.Seq.{drop-cons}
use Rattle.format.specs.Bytes.{byte, first}
use Rattle.format.specs.Insn.{rest}
use Rattle.format.specs.Pattern.{reach, begins}
use Rattle.format.specs.Exam.{first_at}
use Rattle.format.proofs.Answers.{false_true}

pub record Place (c : List ℕ) (i left : ℕ) : Type 0 where
  pub ahead : (j : ℕ) → begins c (i + j) ≡ reach (drop i c) left j

module _ {c : List ℕ} where
  pub place_start : Place c 0 0
  place_start = record { ahead = λ j. rw zero-add }

  module _ {i left : ℕ} (h : i < length c) (p : Place c i left) where
    pub place_here : begins c i ≡ reach (drop i c) left 0
    place_here = rw add-zero at (p.ahead 0)

    after : (j : ℕ) → begins c (i + 1 + j) ≡ reach (drop i c) left (suc j)
    after j = let e : i + 1 + j ≡ i + suc j = omega arith in rw e (p.ahead (suc j))

    -- an instruction begins at i
    pub place_begins : left ≡ 0 → begins c i ≡ true
    unfolding reach
    place_begins e = rw (place_here, drop-cons c i 0 h, e)

    pub place_first : left ≡ 0 → Place c (i + 1) (rest (byte c i) (drop (suc i) c))
    unfolding reach
    place_first e = record { ahead = λ j. after j ∙ rw (drop-cons c i 0 h, e, add-one) }

    -- i is inside an instruction
    pub place_next : (left ≡ 0 → ⊥) → Place c (i + 1) (left - 1)
    unfolding reach
    place_next z =
        let e : left ≡ suc (left - 1) = omega arith in
        record { ahead = λ j. after j ∙ rw (drop-cons c i 0 h, e, add-one) (inner (left - 1) (get_or c i 0) j) }
      where
        inner : (l b j : ℕ) → reach (b ∷ drop (suc i) c) (suc l) (suc j) ≡ reach (drop (suc i) c) (suc l - 1) j
        inner l b j = let k : suc l - 1 ≡ l = omega arith in rw k

    -- and by whether one begins
    pub place_zero : begins c i ≡ true → left ≡ 0
    unfolding reach
    place_zero e = go left (sym place_here ∙ e)
      where
        go : (l : ℕ) → reach (drop i c) l 0 ≡ true → l ≡ 0
        go zero q = refl
        go (suc l) q = let z : false ≡ true = rw (drop-cons c i 0 h) at q in cc

    pub place_more : begins c i ≡ false → left ≡ 0 → ⊥
    place_more e z = let q = place_begins z in false_true (sym e ∙ q)

-- the first refusal from a place on
module _ (f : ℕ → ℕ) (c : List ℕ) (i left : ℕ) where
  pub first_at_first : i < length c → left ≡ 0
      → first_at f (drop i c) left i ≡ first (f i) (first_at f (drop (i + 1) c) (rest (byte c i) (drop (suc i) c)) (i + 1))
  unfolding first_at
  first_at_first h e = rw (drop-cons c i 0 h, e, add-one)

  pub first_at_next : i < length c → (left ≡ 0 → ⊥) → first_at f (drop i c) left i ≡ first_at f (drop (i + 1) c) (left - 1) (i + 1)
  unfolding first_at
  first_at_next h z =
      let e : left ≡ suc (left - 1) = omega arith in
      rw (drop-cons c i 0 h, e, add-one) (inner (left - 1) (get_or c i 0))
    where
      inner : (l b : ℕ) → first_at f (b ∷ drop (suc i) c) (suc l) i ≡ first_at f (drop (suc i) c) (suc l - 1) (suc i)
      inner l b = let k : suc l - 1 ≡ l = omega arith in rw k

  pub first_at_past : length c ≤ i → first_at f (drop i c) left i ≡ 0
  unfolding first_at
  first_at_past h = rw drop_of_length-le
