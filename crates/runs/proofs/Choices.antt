-- What a loop over the choice bytes needs: the choices from a place on, by one turn.
-- Assumes nothing.
use Prim.Native.Nat.{ℕ, suc, ◌+◌, ◌*◌, ◌≤◌, ◌<◌}
use native.Mathlib.Omega.{arith}
use native.Mathlib.Numerals.{add-one, add-two, add-three}
use mathlib.Core.Path.{◌≡◌, refl}
use mathlib.Core.Bool.{false}
use mathlib.Core.List.{List, [], ◌∷◌}
use lib.Dec.{eqb}
use lib.ListN.{length, get_or, drop, length-drop, drop_of_length-le}
use lib.Seq.{drop-cons}
use borrow.Author.Tests.{ne_eqb}
use Rattle.format.specs.Bytes.{ok, refused}
use Rattle.format.specs.Run.{caught, kind, high, put, by_kind, choices_from}

module _ (bs : List ℕ) (i : ℕ) where
  pub read_end : length bs ≤ i → choices_from kind (drop i bs) ≡ ok []
  unfolding choices_from
  read_end h = rw (drop_of_length-le bs h)

  pub read_kind : i < length bs → (b : ℕ) → get_or bs i 0 ≡ b → eqb b 3 ≡ false → choices_from kind (drop i bs) ≡ by_kind b (choices_from kind (drop (i + 1) bs))
  unfolding choices_from
  read_kind h b e q = rw (drop-cons bs i 0, e, q, add-one)

  pub read_caught : i + 2 < length bs → get_or bs i 0 ≡ 3
      → choices_from kind (drop i bs) ≡ put (caught (get_or bs (i + 1) 0 * 256 + get_or bs (i + 2) 0)) (choices_from kind (drop (i + 3) bs))
  unfolding choices_from
  read_caught h e =
      let a : drop i bs ≡ get_or bs i 0 ∷ drop (suc i) bs = drop-cons bs i 0 (omega arith) in
      let b : drop (suc i) bs ≡ get_or bs (suc i) 0 ∷ drop (suc (suc i)) bs = drop-cons bs (suc i) 0 (omega arith) in
      let c : drop (suc (suc i)) bs ≡ get_or bs (suc (suc i)) 0 ∷ drop (suc (suc (suc i))) bs = drop-cons bs (suc (suc i)) 0 (omega arith) in
      rw (a, e, b, c, add-one, add-two, add-three)

  pub read_cut : i < length bs → length bs ≤ i + 2 → get_or bs i 0 ≡ 3 → choices_from kind (drop i bs) ≡ refused 21
  unfolding choices_from
  read_cut h g e = rw (drop-cons bs i 0, e) (short (drop (suc i) bs) (omega (arith, length-drop (suc i) bs)))
    where
      short : (l : List ℕ) → length l ≤ 1 → choices_from high l ≡ refused 21
      short [] k = refl
      short (x ∷ []) k = refl
      short (x ∷ y ∷ l) k = absurd (omega arith)

  pub read_above : i < length bs → 4 < get_or bs i 0 → choices_from kind (drop i bs) ≡ refused 21
  unfolding choices_from
  read_above h g =
      let b = get_or bs i 0 in
      rw (drop-cons bs i 0, ne_eqb b 0 (λ e. omega arith), ne_eqb b 1 (λ e. omega arith), ne_eqb b 2 (λ e. omega arith), ne_eqb b 3 (λ e. omega arith), ne_eqb b 4 (λ e. omega arith))
