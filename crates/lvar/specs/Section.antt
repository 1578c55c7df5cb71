-- The LVAR section over three tables: its strings, the walk with its visits, then its size.
-- Assumes nothing.
use Rattle.std.specs.Prelude.{ℕ, cond, List, length, ◌==◌, nat_le}
use Rattle.format.specs.Bytes.{Answer, ok, refused, on_answer, has, u32_at}
use Rattle.rows.specs.declared.Row.TheVariants.{Text}
use Rattle.rows.specs.Table.{times}
use Rattle.rows.specs.Rows.{row_of}
use Rattle.rows.specs.Walk.{Run, go, stop}
use Rattle.lvar.specs.Names.{State, Tables, state, lv_walk, visits_over, in_word}
use Rattle.lvar.specs.declared.Section.{Section}

-- an answer, and what the three tables hold then
pub record Filled : Type 0 where
  pub ans : Answer Section
  pub records : List ℕ
  pub strings : List ℕ
  pub names : List ℕ

abbrev pub filled : Answer Section → List ℕ → List ℕ → List ℕ → Filled
filled a rs ss ns = record { ans = a; records = rs; strings = ss; names = ns }

-- the section's size, the rows used of both tables and the visits
abbrev pub counts : ℕ → ℕ → ℕ → ℕ → Answer Section
counts size strings names visits = ok (record { size = size; used = record { strings = strings; names = names; visits = visits } })

-- "Size is tested after the content": 8 where it is 0, 7 where it passes the end
unfoldable pub end_of : List ℕ → ℕ → ℕ → ℕ → ℕ → Answer Section
end_of f size strings names visits = cond (size == 0) (refused 8) (cond (nat_le size (length f)) (counts size strings names visits) (refused 7))

-- after the walk, of which the strings' table knows nothing
abbrev pub walked : List ℕ → ℕ → List ℕ → Run State Tables → Filled
walked f strings ss (go st) = filled (end_of f (u32_at f 4) strings st.used (in_word (visits_over st.records st.rec))) st.records ss st.names
walked f strings ss (stop e t) = filled (refused e) t.records ss t.names

unfoldable pub lvar_of : List ℕ → ℕ → ℕ → List ℕ → List ℕ → List ℕ → Filled
lvar_of f base count rs ss ns =
    cond (has f 0 12)
    (let s = times (row_of f base Text) (u32_at f 8) 12 0 ss in
    on_answer s.ans
    (λ r. walked f r.used s.tab (lv_walk f base (u32_at f 8) count 1 (state r.at 0 0 rs ns)))
    (λ e. filled (refused e) rs s.tab ns))
    (filled (refused 7) rs ss ns)
