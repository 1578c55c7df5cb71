-- `line_at`'s halving finds the last entry at or below, where no position falls.
-- Assumes nothing.
use Prim.Native.Nat.{ℕ, zero, suc, ◌+◌, ◌/◌, ◌≤◌, ◌<◌, suc-le-suc}
use native.Mathlib.Nat.{le_of_suc-le-suc, le_refl, le_trans}
use native.Mathlib.Omega.{arith}
use mathlib.Core.Path.{◌≡◌, refl, sym}
use mathlib.Core.Logic.{◌⊎◌, inl, inr}
use mathlib.Core.Bool.{Bool, true, false}
use mathlib.Core.Option.{none, some}
use mathlib.Core.List.{List, [], ◌∷◌}
use lib.Dec.{T, leb, ltb, leb→le}
use lib.ListN.{length}
use borrow.Author.Tests.{ltb-true, ltb-false, leb-true, leb-false, le-leb, lt-leb}
use Rattle.format.specs.Rows.{LineRow}
use Rattle.format.specs.Line.{entry, halve, line_before, line_at, last_at_or_below, rising}
use Rattle.format.proofs.Table.{both}

pub cases : (b : Bool) → (b ≡ true) ⊎ (b ≡ false)
cases true = inl refl
cases false = inr refl

-- positions rise over any distance
pub mono : (m : List LineRow) → T (rising m) → (i j : ℕ) → i ≤ j → j < length m → (entry m i).pos ≤ (entry m j).pos
unfolding rising
mono [] t i j h g = omega arith
mono (e ∷ []) t zero zero h g = le_refl _
mono (e ∷ []) t zero (suc j) h g = absurd (omega arith)
mono (e ∷ []) t (suc i) j h g = absurd (omega arith)
mono (e ∷ f ∷ m) t zero zero h g = le_refl _
mono (e ∷ f ∷ m) t zero (suc j) h g =
    le_trans (leb→le e.pos f.pos (search both)) (mono (f ∷ m) (search both) zero j (omega arith) (le_of_suc-le-suc g))
mono (e ∷ f ∷ m) t (suc i) zero h g = absurd (omega arith)
mono (e ∷ f ∷ m) t (suc i) (suc j) h g =
    mono (f ∷ m) (search both) i j (le_of_suc-le-suc h) (le_of_suc-le-suc g)

-- the first n positions are at or below p, and no other
record Split (m : List LineRow) (p n : ℕ) : Type 0 where
  fit : n ≤ length m
  low : (i : ℕ) → i < n → (entry m i).pos ≤ p
  high : (i : ℕ) → n ≤ i → i < length m → p < (entry m i).pos

last_split : (m : List LineRow) (p n : ℕ) → Split m p n → last_at_or_below m p ≡ line_before m n
unfolding last_at_or_below
last_split [] p zero s = refl
last_split [] p (suc n) s = absurd (omega (arith, s.fit))
last_split (e ∷ m) p zero s =
    let ih : last_at_or_below m p ≡ none = last_split m p zero (record { fit = omega arith; low = λ i h. omega arith; high = λ i h g. s.high (suc i) (omega arith) (suc-le-suc g) }) in
    rw (ih, lt-leb e.pos p (s.high 0 (omega arith) (omega arith)))
last_split (e ∷ m) p (suc zero) s =
    let ih : last_at_or_below m p ≡ none = last_split m p zero (record { fit = omega arith; low = λ i h. omega arith; high = λ i h g. s.high (suc i) (omega arith) (suc-le-suc g) }) in
    rw (ih, le-leb e.pos p (s.low 0 (omega arith)))
last_split (e ∷ m) p (suc (suc n)) s =
    let ih : last_at_or_below m p ≡ some (entry m n).line = last_split m p (suc n)
    (record { fit = omega (arith, s.fit); low = λ i h. s.low (suc i) (suc-le-suc h); high = λ i h g. s.high (suc i) (suc-le-suc h) (suc-le-suc g) }) in
    rw ih

halve_split : (n : ℕ) (m : List LineRow) (p lo hi : ℕ) → T (rising m) → lo ≤ hi → hi ≤ length m → hi ≤ lo + n
    → ((i : ℕ) → i < lo → (entry m i).pos ≤ p) → ((i : ℕ) → hi ≤ i → i < length m → p < (entry m i).pos) → Split m p (halve n m p lo hi)
unfolding halve
halve_split zero m p lo hi t a b c l h = record { fit = omega arith; low = l; high = λ i g k. h i (omega arith) k }
halve_split (suc n) m p lo hi t a b c l h =
    go (cases (ltb lo hi)) (cases (leb (entry m ((lo + hi) / 2)).pos p)) (halve_split n m p)
  where
    go : (ltb lo hi ≡ true) ⊎ (ltb lo hi ≡ false) → (leb (entry m ((lo + hi) / 2)).pos p ≡ true) ⊎ (leb (entry m ((lo + hi) / 2)).pos p ≡ false)
        → ((lo hi : ℕ) → T (rising m) → lo ≤ hi → hi ≤ length m → hi ≤ lo + n
        → ((i : ℕ) → i < lo → (entry m i).pos ≤ p) → ((i : ℕ) → hi ≤ i → i < length m → p < (entry m i).pos) → Split m p (halve n m p lo hi))
        → Split m p (halve (suc n) m p lo hi)
    go (inl e) (inl k) ih =
        let lt : lo < hi = ltb-true lo hi e in
        let le : (entry m ((lo + hi) / 2)).pos ≤ p = leb-true _ _ k in
        rw (e, halve) (rw (k, halve)
        (ih ((lo + hi) / 2 + 1) hi t (omega arith) b (omega arith) (λ i g. le_trans (mono m t i ((lo + hi) / 2) (omega arith) (omega arith)) le) h))
    go (inl e) (inr k) ih =
        let lt : lo < hi = ltb-true lo hi e in
        let gt : p < (entry m ((lo + hi) / 2)).pos = leb-false _ _ k in
        rw (e, halve) (rw (k, halve)
        (ih lo ((lo + hi) / 2) t (omega arith) (omega arith) (omega arith) l (λ i g j. le_trans gt (mono m t ((lo + hi) / 2) i g j))))
    go (inr e) k ih =
        let le : hi ≤ lo = ltb-false lo hi e in
        rw (e, halve) (record { fit = omega arith; low = l; high = λ i g j. h i (omega arith) j })

pub line_last : (m : List LineRow) → T (rising m) → (p : ℕ) → line_at m p ≡ last_at_or_below m p
unfolding line_at
line_last m t p =
    sym (last_split m p (halve (length m) m p 0 (length m))
    (halve_split (length m) m p 0 (length m) t (omega arith) (omega arith) (omega arith) (λ i h. omega arith) (λ i h g. omega arith)))
