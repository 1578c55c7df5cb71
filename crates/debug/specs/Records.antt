-- The debug files of the records, put into two lent tables as they are read, and the words of a record's row that say which are its own.
-- Assumes nothing.
use Rattle.std.specs.Prelude.{ℕ, zero, suc, ◌+◌, ◌*◌, ◌-◌, Bool, ◌||◌, cond, List, leb, ltb, eqb, length, get_or, set}
use Rattle.std.proofs.Math.Option.{Option, none, some}
use Rattle.format.specs.Bytes.{Answer, ok, refused, on_answer, has, u16_at, u32_at}
use Rattle.format.specs.Rows.{range, file_words, record_width}
use Rattle.format.specs.Debug.{FileHead, file_head}
use Rattle.rows.specs.Table.{row_count, first_of, put_of}
use Rattle.rows.specs.Walk.{Run, go, stop, bind, walk}
use Rattle.debug.specs.declared.FileRows.{FileRows}
use Rattle.debug.specs.declared.Reached.{Reached}
use Rattle.debug.specs.declared.OneFile.{OneFile}
use Rattle.debug.specs.declared.Walk.{Walk}
use Rattle.debug.specs.Answers.{start_of}
use Rattle.linemap.specs.Lines.{on_run, first_before, lines_of}

-- the tables of debug files and of lines
pub record Tabs : Type 0 where
  pub files : List ℕ
  pub lines : List ℕ

abbrev pub tabs : List ℕ → List ℕ → Tabs
tabs fs ls = record { files = fs; lines = ls }

abbrev pub used_rows : ℕ → ℕ → FileRows
used_rows f l = record { files = f; lines = l }

-- the place where reading goes on, and both tables with their rows used
pub record Spot : Type 0 where
  pub at : ℕ
  pub used : FileRows
  pub tabs : Tabs

abbrev pub spot : ℕ → FileRows → Tabs → Spot
spot at u t = record { at = at; used = u; tabs = t }

abbrev pub spot_of : Reached → List ℕ → List ℕ → Spot
spot_of r fs ls = spot r.at r.used (tabs fs ls)

-- behind a file: its start, and where reading goes on; before a record's first file, no start
pub record Filed : Type 0 where
  pub last : Option ℕ
  pub spot : Spot

abbrev pub filed : Option ℕ → Spot → Filed
filed last sp = record { last = last; spot = sp }

abbrev pub filed_of : OneFile → List ℕ → List ℕ → Filed
filed_of f fs ls = filed (start_of f.last) (spot_of f.reached fs ls)

-- what reading one file, or several, answers, with both tables as they are then
abbrev pub file_run : Answer OneFile → List ℕ → List ℕ → Run Filed Tabs
file_run (ok f) fs ls = go (filed_of f fs ls)
file_run (refused k) fs ls = stop k (tabs fs ls)

abbrev pub files_run : Answer Reached → List ℕ → List ℕ → Run Spot Tabs
files_run (ok r) fs ls = go (spot_of r fs ls)
files_run (refused k) fs ls = stop k (tabs fs ls)

-- the lines of a file, then its row
unfoldable pub body_of : List ℕ → FileHead → FileRows → Tabs → Run Filed Tabs
body_of s h u t =
    let l = lines_of s h.kind (h.next + h.count) h.count (first_before h.kind h.start) none h.next u.lines t.lines in
    on_answer l.ans
    (λ r.
    let p = put_of r.at u.files t.files (file_words (record { start = h.start; name = h.name; lines = range u.lines (r.used - u.lines) })) in
    on_answer p.ans (λ q. go (filed (some h.start) (spot q.at (used_rows q.used r.used) (tabs p.tab l.tab)))) (λ k. stop k (tabs p.tab l.tab)))
    (λ k. stop k (tabs t.files l.tab))

-- "A record's row is needed .., a debug file's once its kind is accepted"
unfoldable pub file_of : List ℕ → ℕ → Filed → Run Filed Tabs
file_of s names f =
    on_answer (file_head s names f.last f.spot.at)
    (λ h. cond (ltb f.spot.used.files (row_count (length f.spot.tabs.files) 4)) (body_of s h f.spot.used f.spot.tabs) (stop 14 f.spot.tabs))
    (λ k. stop k f.spot.tabs)

-- n files in turn
unfoldable pub files_of : List ℕ → ℕ → ℕ → Filed → Run Spot Tabs
files_of s names zero f = go f.spot
files_of s names (suc n) f = bind (file_of s names f) (files_of s names n)

-- the record table too
pub record Held : Type 0 where
  pub records : List ℕ
  pub tabs : Tabs

abbrev pub held : List ℕ → Tabs → Held
held rs t = record { records = rs; tabs = t }

-- the next record, the record table, and where reading goes on
pub record State : Type 0 where
  pub rec : ℕ
  pub records : List ℕ
  pub spot : Spot

abbrev pub state : ℕ → List ℕ → Spot → State
state rec rs sp = record { rec = rec; records = rs; spot = sp }

-- how far a walk has come, with the three tables
abbrev pub state_of : Walk → List ℕ → List ℕ → List ℕ → State
state_of w rs fs ls = state w.rec rs (spot_of w.reached fs ls)

-- what a visit answers, with the three tables as they are then
abbrev pub walk_run : Answer Walk → List ℕ → List ℕ → List ℕ → Run State Held
walk_run (ok w) rs fs ls = go (state_of w rs fs ls)
walk_run (refused k) rs fs ls = stop k (held rs (tabs fs ls))

-- the words of the row from `row` on that say the first row and the number of its debug files and lines: those between two uses
abbrev pub put_ranges : List ℕ → ℕ → FileRows → FileRows → List ℕ
put_ranges rs row u v =
    set
    (set
    (set (set rs (row + 15) (first_of u.files (v.files - u.files))) (row + 16) (v.files - u.files))
    (row + 17)
    (first_of u.lines (v.lines - u.lines)))
    (row + 18)
    (v.lines - u.lines)

-- the debug record of the record that the state is at: "12: .. a debug record's size other than the bytes read for it"
unfoldable pub step_of : List ℕ → ℕ → State → Run State Held
step_of s names st =
    cond (has s st.spot.at 6)
    (on_run (files_of s names (u16_at s (st.spot.at + 4)) (filed none (spot (st.spot.at + 6) st.spot.used st.spot.tabs)))
    (λ sp.
    cond (eqb (sp.at - st.spot.at) (u32_at s st.spot.at))
    (go (state (st.rec + 1) (put_ranges st.records (st.rec * record_width) st.spot.used sp.used) sp))
    (stop 12 (held st.records sp.tabs)))
    (λ k t. stop k (held st.records t)))
    (stop 7 (held st.records st.spot.tabs))

-- rlen, of the record's row
abbrev pub kids_of : State → ℕ
kids_of st = get_or st.records (st.rec * record_width + 3) 0

abbrev pub used_up : List ℕ → State → Bool
used_up s st = leb (length s) st.spot.at

-- a visit reads nothing past the last record, nor where the section is used up
abbrev pub reads_nothing : List ℕ → ℕ → ℕ → ℕ → Bool
reads_nothing s at count rec = leb count rec || leb (length s) at

-- the walk over `count` records with so many visits to make
abbrev pub walk_of : List ℕ → ℕ → ℕ → ℕ → State → Run State Held
walk_of s names count pending st = walk (step_of s names) kids_of (used_up s) (count - st.rec) pending st
