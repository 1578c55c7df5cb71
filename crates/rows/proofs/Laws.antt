-- Laws of `times` and of a text's bytes, which readers' proofs cite.
-- Assumes nothing.
use Prim.Native.Nat.{ℕ, zero, suc, ◌+◌, ◌-◌, ◌≤◌, ◌<◌}
use mathlib.Core.Path.{◌≡◌, refl, sym, ◌∙◌}
use mathlib.Core.Bool.{Bool, true, false, not, cond, ◌||◌}
use mathlib.Core.List.{List, [], ◌∷◌}
use native.Mathlib.Omega.{arith}
use lib.Dec.{eqb}
use lib.ListN.{length, take, drop}
use Rattle.std.specs.List.{list_any}
use Rattle.std.specs.Prelude.{nat_eq}
use Rattle.format.specs.Bytes.{ok, refused, step, no_zero}
use Rattle.format.specs.Rows.{text_row}
use Rattle.format.specs.Irep.{pool_text}
use Rattle.format.proofs.Pool.{string_at}
use Rattle.rows.specs.declared.Rows.{Rows}
use Rattle.rows.specs.Table.{Out, out, next, times}

nothing : {n : ℕ} → suc n ≤ 0 → ⊥
nothing p = omega arith

module _ (step : ℕ → ℕ → List ℕ → Out) where
  -- a turn that goes on
  pub times_go : (n at u : ℕ) (t : List ℕ) (r : Rows) (t' : List ℕ) → 0 < n → out (ok r) t' ≡ step at u t → times step (n - 1) r.at r.used t' ≡ times step n at u t
  times_go zero at u t r t' p e = elim (nothing p) [ ]
  times_go (suc n) at u t r t' p e =
      let k : suc n - 1 ≡ n = omega arith in
      rw (k, ← e)

  -- a turn that refuses
  pub times_no : (n at u : ℕ) (t : List ℕ) (k : ℕ) (t' : List ℕ) → 0 < n → out (refused k) t' ≡ step at u t → out (refused k) t' ≡ times step n at u t
  times_no zero at u t k t' p e = elim (nothing p) [ ]
  times_no (suc n) at u t k t' p e = rw (← e)

-- a byte before the part, and those behind it
no_zero_behind : (x : ℕ) (f : List ℕ) (n at : ℕ) → no_zero (x ∷ f) n (suc at) ≡ no_zero f n at
unfolding no_zero
no_zero_behind x f zero at = refl
no_zero_behind x f (suc n) at = let e : suc at + 1 ≡ suc (at + 1) = omega arith in rw (e, no_zero_behind x f n (at + 1))

no_zero_first : (f : List ℕ) (n : ℕ) → n ≤ length f → not (list_any (λ y. nat_eq y 0) (take n f)) ≡ no_zero f n 0
unfolding no_zero
no_zero_first f zero h = refl
no_zero_first [] (suc n) h = elim (nothing h) [ ]
no_zero_first (x ∷ f) (suc n) h = rw (no_zero_behind x f n 0) (go (eqb x 0) (no_zero_first f n (omega arith)))
  where
    go : (b : Bool) → not (list_any (λ y. nat_eq y 0) (take n f)) ≡ no_zero f n 0 → not (b || list_any (λ y. nat_eq y 0) (take n f)) ≡ cond b false (no_zero f n 0)
    go true e = refl
    go false e = e

-- none of the n bytes from a place on is zero: no byte of that slice is
pub no_zero_in : (f : List ℕ) (n at : ℕ) → at + n ≤ length f → not (list_any (λ y. nat_eq y 0) (take (at + n - at) (drop at f))) ≡ no_zero f n at
no_zero_in f n at h = let e : at + n - at ≡ n = omega arith in rw e (go at f h)
  where
    go : (at : ℕ) (f : List ℕ) → at + n ≤ length f → not (list_any (λ y. nat_eq y 0) (take n (drop at f))) ≡ no_zero f n at
    go zero f h = no_zero_first f n (omega arith)
    go (suc at) [] h = absurd (omega arith)
    go (suc at) (x ∷ f) h = go at f (omega arith) ∙ sym (no_zero_behind x f n at)

-- a string that was read lies in the part, with the byte behind it
pub string_inside : (f : List ℕ) (base at place n next : ℕ) → ok (step (text_row place n) next) ≡ pool_text f base at → at + 2 + n < length f
string_inside f base at place n next e = (rw (← e) at (string_at f base at)).inside
