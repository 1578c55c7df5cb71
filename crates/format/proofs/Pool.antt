-- Pool entries: what reading a string answers, and a value by its kind.
-- Assumes nothing.
use Prim.Native.Nat.{ℕ, ◌+◌, ◌-◌, ◌<◌}
use native.Mathlib.Omega.{arith}
use mathlib.Core.Path.{◌≡◌, refl}
use mathlib.Core.Logic.{◌⊎◌, inl, inr}
use mathlib.Core.List.{List}
use lib.Dec.{eqb}
use lib.ListN.{length}
use borrow.Author.Tests.{leb-true, eqb-true, eqb-false}
use Rattle.format.specs.Bytes.{Answer, refused, Step, has, byte, u16_at}
use Rattle.format.specs.Rows.{TextRow}
use Rattle.format.specs.Irep.{pool_text, bytes, big_integer, pool_value}
use Rattle.format.proofs.Answers.{either, Holds, Answers, Refuses, implied, weaker, tested}

-- a string that is read at a place of f, which stands at base in its file: where its bytes lie, and the zero behind them
pub record StringAt (f : List ℕ) (base at : ℕ) (t : TextRow) : Type 0 where
  pub place : t.place ≡ base + (at + 2)
  pub inside : at + 2 + t.length < length f
  pub ended : byte f (at + 2 + t.length) ≡ 0

-- n + 1 bytes stand behind the length n at a place, and the last of them is not zero
pub record NotEnded (f : List ℕ) (at : ℕ) : Type 0 where
  pub there : at + 2 + u16_at f at < length f
  pub last : ¬ (byte f (at + 2 + u16_at f at) ≡ 0)

module _ (f : List ℕ) (base at : ℕ) where
  string_holds : Holds (λ s. StringAt f base at s.it) (λ k. k ≡ 9 → NotEnded f at) (pool_text f base at)
  unfolding pool_text
  string_holds =
      let n = u16_at f at in
      tested _ _ (has f at 2) _ 7 (λ e. absurd (omega arith)) (λ _. tested _ _ (has f (at + 2) (n + 1)) _ 7 (λ e. absurd (omega arith)) (λ b.
      let q = leb-true (n + 1) (length f - (at + 2)) b in
      either (Holds _ _) (eqb (byte f (at + 2 + n)) 0) _ _
      (λ z. record { place = refl; inside = omega arith; ended = eqb-true (byte f (at + 2 + n)) 0 z })
      (λ z _. record { there = omega arith; last = eqb-false (byte f (at + 2 + n)) 0 z })))

  pub string_at : Answers (λ s. StringAt f base at s.it) (pool_text f base at)
  string_at = weaker _ _ _ (pool_text f base at) string_holds (λ _ _. tt)

  pub string_refuses : Refuses (λ k. k ≡ 9 → NotEnded f at) (pool_text f base at)
  string_refuses = implied _ _ _ (pool_text f base at) string_holds (λ _ _. tt)

-- "0 and 2 string"
abbrev pub IsString : ℕ → Type 0
IsString k = (k ≡ 0) ⊎ (k ≡ 2)

-- what holds of the value of every kind, and of 10, holds of the value that is read
pub value_cases : (P : Answer (Step TextRow) → Type 0) (f : List ℕ) (base k at : ℕ)
    → (IsString k → P (pool_text f base at))
    → (k ≡ 1 → P (bytes f base at 4))
    → (k ≡ 3 → P (bytes f base at 8))
    → (k ≡ 5 → P (bytes f base at 8))
    → (k ≡ 7 → P (big_integer f base at))
    → P (refused 10)
    → P (pool_value f base k at)
unfolding pool_value
value_cases P f base k at string int32 int64 float64 big none =
    either P (eqb k 0) _ _ (λ z. string (inl (eqb-true k 0 z)))
    (λ _. either P (eqb k 2) _ _ (λ z. string (inr (eqb-true k 2 z)))
    (λ _. either P (eqb k 1) _ _ (λ z. int32 (eqb-true k 1 z))
    (λ _. either P (eqb k 3) _ _ (λ z. int64 (eqb-true k 3 z))
    (λ _. either P (eqb k 5) _ _ (λ z. float64 (eqb-true k 5 z))
    (λ _. either P (eqb k 7) _ _ (λ z. big (eqb-true k 7 z)) (λ _. none))))))
