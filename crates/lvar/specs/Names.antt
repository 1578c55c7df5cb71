-- The LVAR walk over a table of records and a table of names: each visited record takes nlocals - 1 entries; and how many visits it makes.
-- Assumes nothing.
use Rattle.std.specs.Prelude.{ℕ, suc, ◌+◌, ◌-◌, ◌*◌, ◌%◌, Bool, false, cond, List, ◌==◌, slice_index, slice_set}
use Rattle.format.specs.Bytes.{Answer, ok, refused, on_answer}
use Rattle.format.specs.Line.{rows_from}
use Rattle.format.specs.Tree.{total}
use Rattle.format.specs.Rows.{record_width}
use Rattle.rows.specs.declared.Row.TheVariants.{Name}
use Rattle.rows.specs.Table.{Out, first_of, times}
use Rattle.rows.specs.Rows.{row_of}
use Rattle.rows.specs.Walk.{Run, go, stop, walk}
use Rattle.lvar.specs.declared.Walk.{Walk}

-- what both tables hold
pub record Tables : Type 0 where
  pub records : List ℕ
  pub names : List ℕ

abbrev pub tables : List ℕ → List ℕ → Tables
tables rs ns = record { records = rs; names = ns }

-- the place where reading goes on, the next record, the names used, and both tables
pub record State : Type 0 where
  pub at : ℕ
  pub rec : ℕ
  pub used : ℕ
  pub records : List ℕ
  pub names : List ℕ

abbrev pub state : ℕ → ℕ → ℕ → List ℕ → List ℕ → State
state at rec used rs ns = record { at = at; rec = rec; used = used; records = rs; names = ns }

-- how far a walk has come, with both tables
abbrev pub state_of : Walk → List ℕ → List ℕ → State
state_of w rs ns = state w.rows.at w.rec w.rows.used rs ns

-- what a walk answers, with both tables as they are then
abbrev pub out_of : Answer Walk → List ℕ → List ℕ → Run State Tables
out_of (ok w) rs ns = go (state_of w rs ns)
out_of (refused e) rs ns = stop e (tables rs ns)

-- words of a record's row: nlocals and rlen
abbrev pub nlocals_of : List ℕ → ℕ → ℕ
nlocals_of rs r = slice_index rs (r * record_width + 1)

abbrev pub rlen_of : List ℕ → ℕ → ℕ
rlen_of rs r = slice_index rs (r * record_width + 3)

-- the words of the row from `row` on that say its first name and the number of its names
abbrev pub put_names : List ℕ → ℕ → ℕ → ℕ → List ℕ
put_names rs row first n = slice_set (slice_set rs (row + 13) first) (row + 14) n

-- what reading n entries for a record makes of the state
abbrev pub with_names : State → ℕ → Out → Run State Tables
with_names st n o =
    on_answer o.ans
    (λ r. go (state r.at (st.rec + 1) r.used (put_names st.records (st.rec * record_width) (first_of st.used n) n) o.tab))
    (λ e. stop e (tables st.records o.tab))

-- the entries of the record that the state is at: "A visited record takes nlocals - 1 entries"; "11: a visited record has nlocals 0"
unfoldable pub lv_step : List ℕ → ℕ → ℕ → State → Run State Tables
lv_step f base strings st =
    cond (nlocals_of st.records st.rec == 0) (stop 11 (tables st.records st.names))
    (with_names st (nlocals_of st.records st.rec - 1)
    (times (row_of f base (Name strings)) (nlocals_of st.records st.rec - 1) st.at st.used st.names))

abbrev pub lv_kids : State → ℕ
lv_kids st = rlen_of st.records st.rec

abbrev pub never : State → Bool
never st = false

-- the walk over `count` records with so many visits to make
abbrev pub lv_walk : List ℕ → ℕ → ℕ → ℕ → ℕ → State → Run State Tables
lv_walk f base strings count pending st = walk (lv_step f base strings) lv_kids never (count - st.rec) pending st

-- "1 plus the rlens of the records visited", which are the first n
abbrev pub visits_over : List ℕ → ℕ → ℕ
visits_over rs n = suc (total (rows_from (rlen_of rs) 0 n))

-- what a word holds of a number
abbrev pub in_word : ℕ → ℕ
in_word n = n % 4294967296
