-- A table of words that is filled row by row: what a reader answers with the table that it leaves, and rows in turn.
-- Assumes nothing.
use Rattle.std.specs.Prelude.{ℕ, zero, suc, ◌+◌, ◌*◌, ◌/◌, min, cond, List, ◌++◌, ltb, eqb, length, take, drop}
use Rattle.format.specs.Bytes.{Answer, ok, refused, Step}
use Rattle.rows.specs.declared.Rows.{Rows}

-- an answer, and the table as it is then
pub record Out : Type 0 where
  pub ans : Answer Rows
  pub tab : List ℕ

abbrev pub out : Answer Rows → List ℕ → Out
out a t = record { ans = a; tab = t }

-- reading goes on at this place, with so many rows used
abbrev pub next : ℕ → ℕ → Answer Rows
next at u = ok (record { at = at; used = u })

-- t with its words from i on replaced by ws
abbrev pub splice : List ℕ → ℕ → List ℕ → List ℕ
splice t i ws = take i t ++ ws ++ drop (i + length ws) t

-- how many rows of w words n words are, as far as 32 bits count them; no file needs more
abbrev pub row_count : ℕ → ℕ → ℕ
row_count n w = min (n / w) 4294967295

-- "A first row is 0 where its number is 0."
abbrev pub first_of : ℕ → ℕ → ℕ
first_of row n = cond (eqb n 0) 0 row

-- row u of t becomes ws, and reading goes on at `at`; 14 where t has no row u of that width
abbrev pub put_of : ℕ → ℕ → List ℕ → List ℕ → Out
put_of at u t ws =
    cond (ltb u (row_count (length t) (length ws))) (out (next at (u + 1)) (splice t (u * length ws) ws)) (out (refused 14) t)

-- what was read is put into row u; a refusal leaves the table as it is
abbrev pub put_step : {R : Type 0} → (R → List ℕ) → Answer (Step R) → ℕ → List ℕ → Out
put_step words (ok s) u t = put_of s.next u t (words s.it)
put_step words (refused e) u t = out (refused e) t

-- a reader's answer, then what follows from there; a refusal ends it
abbrev pub after : Answer Rows → List ℕ → (ℕ → ℕ → List ℕ → Out) → Out
after (ok r) t k = k r.at r.used t
after (refused e) t k = out (refused e) t

-- n rows in turn
abbrev pub times : (ℕ → ℕ → List ℕ → Out) → ℕ → ℕ → ℕ → List ℕ → Out
times row zero at u t = out (next at u) t
times row (suc n) at u t = after (row at u t).ans (row at u t).tab (times row n)
