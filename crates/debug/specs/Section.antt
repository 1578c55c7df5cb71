-- The DBG section over four tables: its size, its file names, then the walk.
-- Assumes nothing.
use Rattle.std.specs.Prelude.{ℕ, cond, List, leb, length, take}
use Rattle.format.specs.Bytes.{Answer, ok, refused, on_answer, has, reads, u16_at, u32_at}
use Rattle.rows.specs.declared.Row.TheVariants.{Text}
use Rattle.rows.specs.Table.{times}
use Rattle.rows.specs.Rows.{row_of}
use Rattle.linemap.specs.Lines.{on_run}
use Rattle.debug.specs.Records.{Tabs, used_rows, spot, Held, held, state, walk_of}
use Rattle.debug.specs.declared.Section.{Section}

-- what the four tables hold
pub record Tables : Type 0 where
  pub records : List ℕ
  pub file_names : List ℕ
  pub files : List ℕ
  pub lines : List ℕ

abbrev pub tables : List ℕ → List ℕ → List ℕ → List ℕ → Tables
tables rs ns fs ls = record { records = rs; file_names = ns; files = fs; lines = ls }

-- an answer, and what the tables hold then
pub record Filled : Type 0 where
  pub ans : Answer Section
  pub tables : Tables

abbrev pub filled : Answer Section → Tables → Filled
filled a t = record { ans = a; tables = t }

-- the section's size, and the rows used of the three tables
abbrev pub counts : ℕ → ℕ → ℕ → ℕ → Answer Section
counts size names files lines = ok (record { size = size; used = record { file_names = names; files = files; lines = lines } })

-- an answer of the walk, which knows nothing of the file names' table
pub record Walked : Type 0 where
  pub ans : Answer Section
  pub held : Held

abbrev pub walked : Answer Section → List ℕ → List ℕ → List ℕ → Walked
walked a rs fs ls = record { ans = a; held = held rs (record { files = fs; lines = ls }) }

unfoldable pub walked_of : List ℕ → ℕ → ℕ → ℕ → ℕ → List ℕ → Tabs → Walked
walked_of s names count texts at rs t =
    on_run (walk_of s names count 1 (state 0 rs (spot at (used_rows 0 0) t)))
    (λ st. record { ans = counts (length s) texts st.spot.used.files st.spot.used.lines; held = held st.records st.spot.tabs })
    (λ k h. record { ans = refused k; held = h })

-- inside the section: "file name count 2, names as in LVAR, then the same walk"
unfoldable pub content_of : List ℕ → ℕ → ℕ → Tables → Filled
content_of s base count t =
    cond (has s 8 2)
    (let n = times (row_of s base Text) (u16_at s 8) 10 0 t.file_names in
    on_answer n.ans
    (λ r.
    let w = walked_of s (u16_at s 8) count r.used r.at t.records (record { files = t.files; lines = t.lines }) in
    filled w.ans (tables w.held.records n.tab w.held.tabs.files w.held.tabs.lines))
    (λ k. filled (refused k) (tables t.records n.tab t.files t.lines)))
    (filled (refused 7) t)

-- "DBG is read inside its own size, which is tested first"
unfoldable pub debug_of : List ℕ → ℕ → ℕ → Tables → Filled
debug_of f base count t =
    on_answer (reads f 0 8 (u32_at f 4))
    (λ size. cond (leb size (length f)) (content_of (take size f) base count t) (filled (refused 7) t))
    (λ k. filled (refused k) t)
