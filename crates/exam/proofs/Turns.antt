-- The loops over handlers and lines, turn by turn.
-- Assumes nothing.
use Prim.Native.Nat.{ℕ, zero, suc, ◌+◌, ◌-◌, ◌*◌, ◌≤◌, ◌<◌}
use native.Mathlib.Omega.{arith}
use mathlib.Core.Path.{◌≡◌, refl, sym, ap, ◌∙◌}
use mathlib.Core.Bool.{Bool, true, false, ◌&&◌}
use mathlib.Core.List.{List, ◌∷◌}
use lib.Dec.{leb}
use lib.ListN.{get_or}
use borrow.Author.Tests.{le-leb, lt-leb}
use Rattle.format.specs.Bytes.{refuse}
use Rattle.format.specs.Rows.{LineRow}
use Rattle.format.specs.Line.{rising, rows_from, line_row_at}
use Rattle.format.specs.Pattern.{begins}
use Rattle.format.specs.Exam.{first_of}
use Rattle.exam.specs.View.{target_at, targets, entries}
use Rattle.exam.specs.Part.{exam19_of}
use Rattle.format.proofs.RowsFrom.{rows_turn, rows_end}

-- 19 over n rows, at the row h
pub record Caught (c hs : List ℕ) (n h : ℕ) : Type 0 where
  pub so : exam19_of c (targets hs 0 n) ≡ exam19_of c (rows_from (target_at hs) h (n - h))

module _ {c hs : List ℕ} {n : ℕ} where
  module _ {h : ℕ} (l : h < n) (g : Caught c hs n h) where
    pub caught_turn : begins c (target_at hs h) ≡ true → Caught c hs n (h + 1)
    unfolding first_of
    caught_turn e = record { so = g.so ∙ rw (rows_turn (target_at hs) h n l, e) }

    pub caught_bad : begins c (target_at hs h) ≡ false → 19 ≡ exam19_of c (targets hs 0 n)
    unfolding first_of
    caught_bad e = sym (g.so ∙ rw (rows_turn (target_at hs) h n l, e))

  pub caught_end : {h : ℕ} → n ≤ h → Caught c hs n h → 0 ≡ exam19_of c (targets hs 0 n)
  unfolding first_of
  caught_end {h} l g = sym (g.so ∙ rw (rows_end (target_at hs) h n l))

pub at_word : (c : List ℕ) {t v : ℕ} {b : Bool} → v ≡ t → b ≡ begins c v → begins c t ≡ b
at_word c e q = rw e at (sym q)

-- 20 over n rows, at the row j, the later one of two
pub record Risen (ls : List ℕ) (n j : ℕ) : Type 0 where
  pub so : rising (entries ls 0 n) ≡ rising (rows_from (line_row_at ls) j (n - j))

module _ (ls : List ℕ) (n : ℕ) where
  two_rows : (j : ℕ) → j + 1 < n
      → rows_from (line_row_at ls) j (n - j) ≡ line_row_at ls j ∷ line_row_at ls (j + 1) ∷ rows_from (line_row_at ls) (j + 1 + 1) (n - (j + 1 + 1))
  two_rows j l =
      rows_turn (line_row_at ls) j n (omega arith)
      ∙ ap (λ (m : List LineRow). line_row_at ls j ∷ m) (rows_turn (line_row_at ls) (j + 1) n l)

  short : (j k : ℕ) → k ≤ 1 → rising (rows_from (line_row_at ls) j k) ≡ true
  unfolding rising rows_from
  short j zero h = refl
  short j (suc zero) h = refl
  short j (suc (suc k)) h = absurd (omega arith)

module _ {ls : List ℕ} {n : ℕ} where
  module _ {j : ℕ} (l : j + 1 < n) (g : Risen ls n j) where
    compared : rising (entries ls 0 n) ≡ (leb (get_or ls (j * 2) 0) (get_or ls ((j + 1) * 2) 0) && rising (rows_from (line_row_at ls) (j + 1) (n - (j + 1))))
    unfolding rising
    compared =
        g.so ∙ rw (two_rows ls n j l)
        (ap (λ (m : List LineRow). leb (get_or ls (j * 2) 0) (get_or ls ((j + 1) * 2) 0) && rising m) (sym (rows_turn (line_row_at ls) (j + 1) n l)))

    pub risen_turn : get_or ls (j * 2) 0 ≤ get_or ls ((j + 1) * 2) 0 → Risen ls n (j + 1)
    risen_turn h = record { so = compared ∙ rw (le-leb (get_or ls (j * 2) 0) (get_or ls ((j + 1) * 2) 0) h) }

    pub risen_bad : get_or ls ((j + 1) * 2) 0 < get_or ls (j * 2) 0 → 20 ≡ refuse 20 (rising (entries ls 0 n))
    risen_bad h = rw (compared, lt-leb (get_or ls (j * 2) 0) (get_or ls ((j + 1) * 2) 0) h)

  pub risen_end : {j : ℕ} → n ≤ j + 1 → Risen ls n j → 0 ≡ refuse 20 (rising (entries ls 0 n))
  risen_end {j} l g = rw (g.so, short ls n j (n - j) (omega arith))
