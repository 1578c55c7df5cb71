-- The lines of one debug file, put into a lent table as they are read.
-- Assumes nothing.
use Rattle.std.specs.Prelude.{ℕ, zero, suc, cond, List, eqb}
use Rattle.std.proofs.Math.Option.{Option, some}
use Rattle.format.specs.Bytes.{Answer, ok, refused, on_answer, Step}
use Rattle.format.specs.Rows.{LineRow, line_row, line_words}
use Rattle.format.specs.Packed.{keeps}
use Rattle.format.specs.Debug.{map_entry, after, goes_on}
use Rattle.line.specs.Answers.{line_of}
use Rattle.rows.specs.Table.{Out, out, next, put_of}
use Rattle.rows.specs.Walk.{Run, go, stop}
use Rattle.linemap.specs.declared.OneLine.{OneLine}
use Rattle.linemap.specs.Answers.{before_of}

-- what is made of a reader's state, or of its refusal
abbrev pub on_run : {S T A : Type 0} → Run S T → (S → A) → (ℕ → T → A) → A
on_run (go s) k e = k s
on_run (stop n t) k e = e n t

-- what the next entry goes by, the line of the entry before it, the next place, and the table with its rows used
pub record Turn : Type 0 where
  pub before : LineRow
  pub last : Option ℕ
  pub at : ℕ
  pub used : ℕ
  pub tab : List ℕ

abbrev pub turn : LineRow → Option ℕ → ℕ → ℕ → List ℕ → Turn
turn e last at u t = record { before = e; last = last; at = at; used = u; tab = t }

-- what reading one entry answers, with the table as it is then
abbrev pub line_run : Answer OneLine → List ℕ → Run Turn (List ℕ)
line_run (ok l) t = go (turn (before_of l.before) (line_of l.last) l.rows.at l.rows.used t)
line_run (refused k) t = stop k t

-- what a file's first entry goes by: kind 0 starts at the file's start, the sums of kind 2 "start at 0 in each file"
abbrev pub first_before : ℕ → ℕ → LineRow
first_before kind start = line_row (cond (eqb kind 0) start 0) 0

-- an entry's row is put unless the entry is dropped, "a dropped line needs none"
unfoldable pub push_of : Option ℕ → Step LineRow → ℕ → List ℕ → Out
push_of last x u t = cond (keeps last x.it.line) (put_of x.next u t (line_words x.it)) (out (next x.next u) t)

-- the entry at `at`, put
unfoldable pub entry_put : List ℕ → ℕ → LineRow → Option ℕ → ℕ → ℕ → List ℕ → Run Turn (List ℕ)
entry_put s kind e last at u t =
    on_answer (map_entry s kind e at)
    (λ x.
    let p = push_of last x u t in
    on_answer p.ans (λ r. go (turn (after kind x.it) (some x.it.line) r.at r.used p.tab)) (λ k. stop k p.tab))
    (λ k. stop k t)

-- at most n entries more, each put before the next is read
unfoldable pub lines_of : List ℕ → ℕ → ℕ → ℕ → LineRow → Option ℕ → ℕ → ℕ → List ℕ → Out
lines_of s kind end zero e last at u t = out (next at u) t
lines_of s kind end (suc n) e last at u t =
    cond (goes_on kind end at)
    (on_run (entry_put s kind e last at u t)
    (λ r. lines_of s kind end n r.before r.last r.at r.used r.tab)
    (λ k t'. out (refused k) t'))
    (out (next at u) t)
