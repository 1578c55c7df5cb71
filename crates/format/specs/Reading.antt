-- Forward reading, free of tables: the rows that were read, in order, and how that ended. A refused reading keeps the rows read before it:
-- these are the rows that it needed.
-- Assumes nothing.
use Rattle.std.specs.Prelude.{ℕ, zero, suc, List, [], ◌∷◌}
use Rattle.format.specs.Bytes.{Answer, ok, refused, Step}

-- rows, and the place where reading goes on, or a refusal
pub record Read (R : Type 0) : Type 0 where
  pub rows : List R
  pub end : Answer ℕ

abbrev pub reading : {R : Type 0} → List R → Answer ℕ → Read R
reading rs e = record { rows = rs; end = e }

-- one thing that is read as far as it goes, and how that ended
pub record Part (A : Type 0) : Type 0 where
  pub it : A
  pub end : Answer ℕ

abbrev pub part : {A : Type 0} → A → Answer ℕ → Part A
part a e = record { it = a; end = e }

-- a row before the others
abbrev pub add : {R : Type 0} → R → Read R → Read R
add r x = reading (r ∷ x.rows) x.end

-- where one reading went on, the next
abbrev pub and_then : {R : Type 0} → Answer ℕ → (ℕ → Read R) → Read R
and_then (ok at) k = k at
and_then (refused e) k = reading [] (refused e)

-- one row, then the others
abbrev pub more : {R : Type 0} → Answer (Step R) → (ℕ → Read R) → Read R
more (ok s) k = add s.it (k s.next)
more (refused e) k = reading [] (refused e)

-- n rows in turn
abbrev pub in_turn : {R : Type 0} → (ℕ → Answer (Step R)) → ℕ → ℕ → Read R
in_turn p zero at = reading [] (ok at)
in_turn p (suc n) at = more (p at) (in_turn p n)
