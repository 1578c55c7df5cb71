-- The halving's end and its turns, and the line before the place that it ends at.
-- Assumes nothing.
use Prim.Native.Nat.{ℕ, zero, suc, ◌+◌, ◌*◌, ◌-◌, ◌/◌, ◌<◌, ◌≤◌}
use native.Mathlib.Omega.{arith}
use mathlib.Core.Path.{◌≡◌, refl}
use mathlib.Core.List.{List}
use mathlib.Core.Option.{some}
use lib.ListN.{length, get_or}
use borrow.Author.Tests.{lt-ltb, le-ltb, le-leb, lt-leb}
use Rattle.format.specs.Rows.{LineRow}
use Rattle.format.specs.Line.{entry, halve, line_before, map_of}
use Rattle.format.proofs.RowsFrom.{map_entry_lem}

module _ (m : List LineRow) (p : ℕ) where
  pub halve_done : (f lo hi : ℕ) → hi ≤ lo → halve f m p lo hi ≡ lo
  unfolding halve
  halve_done zero lo hi h = refl
  halve_done (suc f) lo hi h = rw (le-ltb lo hi h, halve)

  -- f bounds the turns, and hi - lo are enough
  pub halve_up : (f lo hi : ℕ) → lo < hi → hi - lo ≤ f → (entry m ((lo + hi) / 2)).pos ≤ p → halve f m p lo hi ≡ halve (f - 1) m p ((lo + hi) / 2 + 1) hi
  unfolding halve
  halve_up f lo hi h k b = turn (f - 1) (omega arith)
    where
      turn : (g : ℕ) → f ≡ suc g → halve f m p lo hi ≡ halve g m p ((lo + hi) / 2 + 1) hi
      turn g e = rw (e, lt-ltb lo hi h, halve) (rw (le-leb (entry m ((lo + hi) / 2)).pos p b, halve))

  pub halve_down : (f lo hi : ℕ) → lo < hi → hi - lo ≤ f → p < (entry m ((lo + hi) / 2)).pos → halve f m p lo hi ≡ halve (f - 1) m p lo ((lo + hi) / 2)
  unfolding halve
  halve_down f lo hi h k b = turn (f - 1) (omega arith)
    where
      turn : (g : ℕ) → f ≡ suc g → halve f m p lo hi ≡ halve g m p lo ((lo + hi) / 2)
      turn g e = rw (e, lt-ltb lo hi h, halve) (rw (lt-leb (entry m ((lo + hi) / 2)).pos p b, halve))

-- the line of the row before i in a lent table
pub line_before_lem : (t : List ℕ) (i : ℕ) → ¬ (i ≡ 0) → i ≤ length t / 2 → line_before (map_of t) i ≡ some (get_or t ((i - 1) * 2 + 1) 0)
line_before_lem t zero ne h = absurd (ne refl)
line_before_lem t (suc i) ne h = let e : suc i - 1 ≡ i = omega arith in rw (e, map_entry_lem t i (omega arith))
