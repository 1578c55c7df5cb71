-- The pattern that lent tables hold, read off the file's bytes and the words. Total on any tables: a word beyond a table is 0.
-- Assumes nothing.
use Rattle.std.specs.Prelude.{ℕ, ◌+◌, ◌-◌, ◌*◌, ◌≤◌, ◌<◌, ◌≡◌, List, length, take, drop}
use Rattle.format.specs.Rows.{LineRow, record_width}
use Rattle.format.specs.Line.{rows_from, line_row_at}
use Rattle.format.specs.Lookup.{word, record_word}
use Rattle.format.specs.Pattern.{Record, Pattern}
use Rattle.format.specs.Exam.{examine_pattern}

-- the targets of n handler rows, from row i on
abbrev pub target_at : List ℕ → ℕ → ℕ
target_at hs i = word 4 hs i 3

abbrev pub targets : List ℕ → ℕ → ℕ → List ℕ
targets hs i n = rows_from (target_at hs) i n

-- n line rows, from row i on
abbrev pub entries : List ℕ → ℕ → ℕ → List LineRow
entries ls i n = rows_from (line_row_at ls) i n

-- the instruction bytes of record row r
abbrev pub code_at : List ℕ → List ℕ → ℕ → List ℕ
code_at f recs r = take (record_word recs r 5) (drop (record_word recs r 6) f)

-- record row r
abbrev pub record_at : List ℕ → List ℕ → List ℕ → List ℕ → ℕ → Record
record_at f recs hs ls r =
    record {
      nregs = record_word recs r 2;
      rlen = record_word recs r 3;
      npool = record_word recs r 10;
      nsyms = record_word recs r 12;
      code = code_at f recs r;
      handlers = targets hs (record_word recs r 7) (record_word recs r 8);
      lines = entries ls (record_word recs r 17) (record_word recs r 18);
    }

-- the records from one on, up to but not with another
abbrev pub records_between : List ℕ → List ℕ → List ℕ → List ℕ → ℕ → ℕ → Pattern
records_between f recs hs ls from to = rows_from (record_at f recs hs ls) from (to - from)

-- the first n records
abbrev pub pattern_at : List ℕ → List ℕ → List ℕ → List ℕ → ℕ → Pattern
pattern_at f recs hs ls n = rows_from (record_at f recs hs ls) 0 n

abbrev pub rlens_at : List ℕ → ℕ → List ℕ
rlens_at recs n = rows_from (λ (r : ℕ). record_word recs r 3) 0 n

-- What a load gives of a record row: what it names lies inside the file and the tables.
pub record RowFits (f recs hs ls : List ℕ) (r : ℕ) : Type 0 where
  pub inside : r * record_width + record_width ≤ length recs
  pub bytes : record_word recs r 6 + record_word recs r 5 ≤ length f
  pub handling : (record_word recs r 7 + record_word recs r 8) * 4 ≤ length hs
  pub lined : (record_word recs r 17 + record_word recs r 18) * 2 ≤ length ls

-- and of the tables
pub record Fits (f recs hs ls : List ℕ) (n : ℕ) : Type 0 where
  pub few : n ≤ 1024
  pub held : n * record_width ≤ length recs
  pub small : length f ≤ 65536
  pub each : (r : ℕ) → r < n → RowFits f recs hs ls r

-- tables that a load filled, of a pattern that meets none of 15 to 20, 25 and 32 by some list
pub record Ready (f recs hs ls : List ℕ) (n : ℕ) : Type 0 where
  pub fits : Fits f recs hs ls n
  pub list : List ℕ
  pub passes : examine_pattern list (pattern_at f recs hs ls n) ≡ 0
