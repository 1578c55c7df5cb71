-- Facts of the tree: the test `whole` is paper 01's sentence, and a child that a whole tree's record has lies inside the list, behind its parent.
-- Assumes nothing.
use Prim.Native.Nat.{ℕ, zero, suc, ◌+◌, ◌<◌, suc-le-suc}
use native.Mathlib.Nat.{le_of_suc-le-suc, zero-add, suc-add}
use native.Mathlib.Numerals.{add-one}
use native.Mathlib.Omega.{arith}
use mathlib.Core.Path.{◌≡◌, refl, sym, ap}
use mathlib.Core.Logic.{◌↔◌}
use mathlib.Core.List.{List, [], ◌∷◌}
use lib.Dec.{T}
use lib.ListN.{length, get_or, take, drop, length-drop}
use lib.Seq.{drop-drop}
use Rattle.format.specs.Tree.{total, Whole, layout, whole, span, child_of}

layout_sums : (p : ℕ) (l : List ℕ) → T (layout p l) → p + total l ≡ length l
unfolding layout total
layout_sums zero [] t = refl
layout_sums (suc p) [] t = absurd t
layout_sums zero (r ∷ l) t = absurd t
layout_sums (suc p) (r ∷ l) t = omega (arith, layout_sums (p + r) l t)

layout_enough : (p : ℕ) (l : List ℕ) → T (layout p l) → (m : ℕ) → m < length l → m < p + total (take m l)
unfolding layout total
layout_enough zero [] t m h = omega arith
layout_enough (suc p) [] t m h = absurd t
layout_enough zero (r ∷ l) t m h = absurd t
layout_enough (suc p) (r ∷ l) t zero h = omega arith
layout_enough (suc p) (r ∷ l) t (suc m) h = omega (arith, layout_enough (p + r) l t m (le_of_suc-le-suc h))

layout_of : (p : ℕ) (l : List ℕ) → p + total l ≡ length l → ((m : ℕ) → m < length l → m < p + total (take m l)) → T (layout p l)
unfolding layout total
layout_of zero [] s e = tt
layout_of (suc p) [] s e = omega arith
layout_of zero (r ∷ l) s e = absurd (omega (arith, e 0 (omega arith)))
layout_of (suc p) (r ∷ l) s e = layout_of (p + r) l (omega arith) (λ m h. omega (arith, e (suc m) (suc-le-suc h)))

pub whole_iff : (l : List ℕ) → T (whole l) ↔ Whole l
whole_iff l = (there, back)
  where
    there : T (whole l) → Whole l
    there t = record { sums = omega (arith, layout_sums 1 l t); enough = λ m _ h. omega (arith, layout_enough 1 l t m h) }

    at : Whole l → (m : ℕ) → m < length l → m < 1 + total (take m l)
    at w zero h = omega arith
    at w (suc m) h = omega (arith, w.enough (suc m) (omega arith) h)

    back : Whole l → T (whole l)
    back w = layout_of 1 l (omega (arith, w.sums)) (at w)

-- of p trees that fill the list, the first k end before its end if k is below p
span_inside : (p k : ℕ) (l : List ℕ) → T (layout p l) → k < p → span k l < length l
unfolding layout span
span_inside zero k [] t h = absurd (omega arith)
span_inside zero k (r ∷ l) t h = absurd t
span_inside (suc p) k [] t h = absurd t
span_inside (suc p) zero (r ∷ l) t h = omega arith
span_inside (suc p) (suc k) (r ∷ l) t h = suc-le-suc (span_inside (p + r) (k + r) l t (omega arith))

-- all p trees fill it
pub span_whole : (p : ℕ) (l : List ℕ) → T (layout p l) → span p l ≡ length l
unfolding layout span
span_whole zero [] t = refl
span_whole (suc p) [] t = absurd t
span_whole zero (r ∷ l) t = absurd t
span_whole (suc p) (r ∷ l) t = ap suc (span_whole (p + r) l t)

-- behind record r the list holds its children's trees and others
behind : (p : ℕ) (l : List ℕ) → T (layout p l) → (r : ℕ) → r < length l → (q : ℕ) × T (layout (q + get_or l r 0) (drop (suc r) l))
unfolding layout
behind zero [] t r h = absurd (omega arith)
behind (suc p) [] t r h = absurd t
behind zero (x ∷ l) t r h = absurd t
behind (suc p) (x ∷ l) t zero h = (p, t)
behind (suc p) (x ∷ l) t (suc r) h = behind (p + x) l t r (le_of_suc-le-suc h)

pub span_zero : (l : List ℕ) → span 0 l ≡ 0
unfolding span
span_zero [] = refl
span_zero (r ∷ l) = refl

pub span_nil : (p : ℕ) → span p [] ≡ 0
unfolding span
span_nil zero = refl
span_nil (suc p) = refl

pub span_add : (p q : ℕ) (l : List ℕ) → span (p + q) l ≡ span p l + span q (drop (span p l) l)
unfolding span
span_add zero q [] = simp (zero-add, span_nil)
span_add (suc p) q [] = simp (zero-add, span_nil)
span_add zero q (r ∷ l) = simp zero-add
span_add (suc p) q (r ∷ l) =
    let e : p + q + r ≡ p + r + q = omega arith in
    rw (suc-add p q, suc-add (span (p + r) l)) (ap suc (rw e (span_add (p + r) q l)))

pub kid_closed : (l : List ℕ) (r k : ℕ) → child_of l r k ≡ suc r + span k (drop (suc r) l)
unfolding child_of
kid_closed l r zero = omega (arith, span_zero (drop (suc r) l))
kid_closed l r (suc k) =
    let d : List ℕ = drop (suc r) l in
    let e : drop (suc r + span k d) l ≡ drop (span k d) d = sym (drop-drop (span k d) (suc r) l) in
    rw (kid_closed l r k, e, ← add-one k) (omega (arith, span_add k 1 d))

pub kid_inside : (l : List ℕ) → T (whole l) → (r k : ℕ) → r < length l → k < get_or l r 0 → (r < child_of l r k) × (child_of l r k < length l)
kid_inside l t r k h g =
    let b : (q : ℕ) × T (layout (q + get_or l r 0) (drop (suc r) l)) = behind 1 l t r h in
    let s : span k (drop (suc r) l) < length (drop (suc r) l) = span_inside (b.0 + get_or l r 0) k (drop (suc r) l) b.1 (omega arith) in
    rw (kid_closed l r k) (omega (arith, length-drop (suc r) l))
