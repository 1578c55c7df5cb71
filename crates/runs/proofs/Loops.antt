-- What a loop over the bytes or the records needs: each definition, read from a place on, by one turn.
-- Assumes nothing.
use Prim.Native.Nat.{ℕ, zero, suc, ◌+◌, ◌-◌, ◌*◌, ◌≤◌, ◌<◌}
use native.Mathlib.Nat.{le_of_suc-le-suc, suc-add, add-suc, add-zero, sub-zero, suc-sub-suc}
use native.Mathlib.Omega.{arith}
use mathlib.Core.Path.{◌≡◌, refl, sym, ap, ◌∙◌}
use mathlib.Core.Bool.{true, false}
use mathlib.Core.List.{List, [], ◌∷◌}
use lib.Dec.{ltb}
use borrow.Author.Tests.{ltb-true, ltb-false}
use mathlib.Core.Logic.{◌⊎◌, inl, inr}
use Rattle.runs.proofs.Line.{cases}
use lib.ListN.{length, get_or, drop, length-drop, drop_of_length-le}
use lib.Seq.{drop-cons, drop-drop, drop-nil}
use Rattle.format.specs.Bytes.{byte, first}
use Rattle.format.specs.Insn.{rest, next}
use Rattle.format.specs.Tree.{span, layout, child_of}
use Rattle.format.specs.Pattern.{reach, begins}
use Rattle.format.specs.Exam.{first_at}
use native.Mathlib.Numerals.{add-one}
use Rattle.runs.proofs.Tree.{kid_closed, span_zero, span_nil}
use Rattle.runs.proofs.Begins.{reach_within}

-- the bytes left of an instruction are passed over
first_at_pass : (f : ℕ → ℕ) (bs : List ℕ) (left o : ℕ) → first_at f bs left o ≡ first_at f (drop left bs) 0 (o + left)
unfolding first_at
first_at_pass f [] left o = simp drop-nil
first_at_pass f (b ∷ bs) zero o = simp add-zero
first_at_pass f (b ∷ bs) (suc left) o = rw (add-suc, ← suc-add) (first_at_pass f bs left (suc o))

-- one turn of a loop over the instructions
pub first_at_turn : (f : ℕ → ℕ) (c : List ℕ) (i : ℕ) → i < length c
    → first_at f (drop i c) 0 i ≡ first (f i) (first_at f (drop (next c i) c) 0 (next c i))
unfolding first_at
first_at_turn f c i h =
    let w = rest (byte c i) (drop (suc i) c) in
    let e : suc i + w ≡ next c i = omega arith in
    rw (drop-cons c i 0, first_at_pass f (drop (suc i) c) w (suc i), drop-drop w (suc i) c, e)

-- its end
pub first_at_end : (f : ℕ → ℕ) (c : List ℕ) (i : ℕ) → length c ≤ i → first_at f (drop i c) 0 i ≡ 0
unfolding first_at
first_at_end f c i h = rw drop_of_length-le

reach_pass : (bs : List ℕ) (left o : ℕ) → left ≤ o → reach bs left o ≡ reach (drop left bs) 0 (o - left)
unfolding reach
reach_pass [] left o h = simp drop-nil
reach_pass (b ∷ bs) zero o h = simp sub-zero
reach_pass (b ∷ bs) (suc left) zero h = absurd (omega arith)
reach_pass (b ∷ bs) (suc left) (suc o) h = rw suc-sub-suc (reach_pass bs left o (le_of_suc-le-suc h))

-- one turn of a loop that reads from 0 up to o: from a place i below o, where an instruction begins
pub reach_turn : (c : List ℕ) (i o : ℕ) → i < length c → i < o → next c i ≤ o → reach (drop i c) 0 (o - i) ≡ reach (drop (next c i) c) 0 (o - next c i)
unfolding reach
reach_turn c i o h g k =
    let w = rest (byte c i) (drop (suc i) c) in
    let e : suc i + w ≡ next c i = omega arith in
    let d : o - i ≡ suc (o - suc i) = omega arith in
    let u : o - suc i - w ≡ o - next c i = omega arith in
    rw (drop-cons c i 0, d, reach_pass (drop (suc i) c) w (o - suc i) (omega arith), drop-drop w (suc i) c, e, u)

-- the instruction at i passes over o
pub reach_over : (c : List ℕ) (i o : ℕ) → i < length c → i < o → o < next c i → reach (drop i c) 0 (o - i) ≡ false
unfolding reach
reach_over c i o h g k =
    let w = rest (byte c i) (drop (suc i) c) in
    let d : o - i ≡ suc (o - suc i) = omega arith in
    rw (drop-cons c i 0, d, reach_within (drop (suc i) c) w (o - suc i) (omega arith))

-- one turn of a loop over the records: p trees from i on
pub span_turn : (l : List ℕ) (i p : ℕ) → i < length l → span (suc p) (drop i l) ≡ suc (span (p + get_or l i 0) (drop (suc i) l))
unfolding span
span_turn l i p h = rw (drop-cons l i 0)

pub layout_turn : (l : List ℕ) (i p : ℕ) → i < length l → layout (suc p) (drop i l) ≡ layout (p + get_or l i 0) (drop (suc i) l)
unfolding layout
layout_turn l i p h = rw (drop-cons l i 0)

reach_some : (d : List ℕ) → 0 < length d → reach d 0 0 ≡ true
unfolding reach
reach_some [] h = absurd (omega arith)
reach_some (b ∷ d) h = refl

reach_none : (d : List ℕ) → length d ≤ 0 → reach d 0 0 ≡ false
unfolding reach
reach_none [] h = refl
reach_none (b ∷ d) h = absurd (omega arith)

-- The loop that asks whether an instruction begins at o, at the place i.
pub record Reading (c : List ℕ) (o i : ℕ) : Type 0 where
  pub upto : i ≤ o → begins c o ≡ reach (drop i c) 0 (o - i)
  pub past : o < i → begins c o ≡ false

module _ (c : List ℕ) (o : ℕ) where
  pub reading_start : Reading c o 0
  reading_start = record { upto = λ h. simp sub-zero; past = λ h. absurd (omega arith) }

  pub reading_turn : (i j : ℕ) → i < length c → i < o → j ≡ next c i → Reading c o i → Reading c o j
  reading_turn i j h g e s = record {
    upto = λ k. s.upto (omega arith) ∙ reach_turn c i o h g (omega arith) ∙ ap (λ (n : ℕ). reach (drop n c) 0 (o - n)) (sym e);
    past = λ k. s.upto (omega arith) ∙ reach_over c i o h g (omega arith);
  }

  pub reading_out : (i : ℕ) → length c ≤ i → i < o → Reading c o i → false ≡ begins c o
  unfolding reach
  reading_out i h g s = sym (s.upto (omega arith) ∙ ap (λ (l : List ℕ). reach l 0 (o - i)) (drop_of_length-le c h))

  pub reading_end : (i : ℕ) → i ≡ o → Reading c o i → ltb i (length c) ≡ begins c o
  reading_end i e s =
      let z : o - i ≡ 0 = omega arith in
      let b : begins c o ≡ reach (drop i c) 0 0 = rw z at (s.upto (omega arith)) in
      go b (cases (ltb i (length c)))
    where
      go : begins c o ≡ reach (drop i c) 0 0 → (ltb i (length c) ≡ true) ⊎ (ltb i (length c) ≡ false) → ltb i (length c) ≡ begins c o
      go b (inl q) = let l = ltb-true i (length c) q in let r = reach_some (drop i c) (omega (arith, length-drop i c)) in cc
      go b (inr q) = let l = ltb-false i (length c) q in let r = reach_none (drop i c) (omega (arith, length-drop i c)) in cc

-- The loop that passes over k trees behind r, at the place i with p trees to go.
pub record Passing (l : List ℕ) (r k i p : ℕ) : Type 0 where
  pub inside : i ≤ length l
  pub bounded : p ≤ 65535 + 65535 * i
  pub same : child_of l r k ≡ i + span p (drop i l)

module _ (l : List ℕ) (r k : ℕ) where
  pub passing_start : r < length l → k ≤ 65535 → Passing l r k (r + 1) k
  passing_start h g = record { inside = omega arith; bounded = omega arith; same = rw add-one (kid_closed l r k) }

  pub passing_turn : (i p v : ℕ) → v ≡ get_or l i 0 → v ≤ 65535 → i < length l → 0 < p → Passing l r k i p → Passing l r k (i + 1) (p - 1 + v)
  passing_turn i zero v e b h g s = absurd (omega arith)
  passing_turn i (suc p) v e b h g s = record {
    inside = omega arith;
    bounded = omega (arith, s.bounded);
    same =
        let q : suc p - 1 + v ≡ p + get_or l i 0 = omega arith in
        rw (add-one, q) (omega (arith, s.same, span_turn l i p h));
  }

  pub passing_end : (i p : ℕ) → (p ≡ 0) ⊎ (length l ≤ i) → Passing l r k i p → i ≡ child_of l r k
  passing_end i p (inl e) s = let q : span p (drop i l) ≡ 0 = rw e (span_zero (drop i l)) in omega (arith, s.same)
  passing_end i p (inr h) s = let q : span p (drop i l) ≡ 0 = rw (drop_of_length-le l h) (span_nil p) in omega (arith, s.same)
