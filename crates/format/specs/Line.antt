-- The line of an offset. Paper 01, 'Fetch and line lookup': "`line_at` answers as its halving does; where no position falls, that is the
-- last entry at or below."
-- Assumes nothing.
use Rattle.std.specs.Prelude.{ℕ, zero, suc, ◌+◌, ◌*◌, ◌/◌, Bool, true, false, ◌&&◌, cond, List, [], ◌∷◌, ltb, leb, length, get_or}
use Rattle.std.proofs.Math.Option.{Option, none, some}
use Rattle.format.specs.Rows.{LineRow, line_row}

abbrev pub entry : List LineRow → ℕ → LineRow
entry m i = get_or m i (line_row 0 0)

-- `line_at`'s loop: the middle of lo and hi, rounded down, until they meet. A turn shortens hi - lo, so as many turns as there are entries do.
unfoldable pub halve : ℕ → List LineRow → ℕ → ℕ → ℕ → ℕ
halve zero m p lo hi = lo
halve (suc n) m p lo hi =
    elim (ltb lo hi) [
      | true ↦ elim (leb (entry m ((lo + hi) / 2)).pos p) [ true ↦ halve n m p ((lo + hi) / 2 + 1) hi | false ↦ halve n m p lo ((lo + hi) / 2) ]
      | false ↦ lo
    ]

-- the line of the entry before i, none at 0
abbrev pub line_before : List LineRow → ℕ → Option ℕ
line_before m zero = none
line_before m (suc i) = some (entry m i).line

unfoldable pub line_at : List LineRow → ℕ → Option ℕ
line_at m p = line_before m (halve (length m) m p 0 (length m))

-- the line of the last entry at or below p, or none
abbrev pub or_else : Option ℕ → Option ℕ → Option ℕ
or_else (some l) o = some l
or_else none o = o

unfoldable pub last_at_or_below : List LineRow → ℕ → Option ℕ
last_at_or_below [] p = none
last_at_or_below (e ∷ m) p = or_else (last_at_or_below m p) (cond (leb e.pos p) (some e.line) none)

-- no position falls. "20: a map position below the one before it."
unfoldable pub rising : List LineRow → Bool
rising [] = true
rising (e ∷ []) = true
rising (e ∷ f ∷ m) = leb e.pos f.pos && rising (f ∷ m)

-- n rows of a view, from row i on
unfoldable pub rows_from : {R : Type 0} → (ℕ → R) → ℕ → ℕ → List R
rows_from row i zero = []
rows_from row i (suc n) = row i ∷ rows_from row (suc i) n

-- row i of a lent line table, and its rows i to i + n: two words each
abbrev pub line_row_at : List ℕ → ℕ → LineRow
line_row_at t i = line_row (get_or t (i * 2) 0) (get_or t (i * 2 + 1) 0)

abbrev pub map_of : List ℕ → List LineRow
map_of t = rows_from (line_row_at t) 0 (length t / 2)
