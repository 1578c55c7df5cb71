-- The DBG section. f is the part of the file from the section's start on, base that start, and s the section alone: f's first bytes, as many
-- as its size says. Paper 01, 'Loading': "DBG is read inside its own size, which is tested first".
-- Assumes nothing.
use Rattle.std.specs.Prelude.{ℕ, zero, suc, ◌+◌, ◌-◌, Bool, true, false, cond, List, [], ◌∷◌, leb, ltb, eqb, length, take}
use Rattle.std.proofs.Math.Option.{Option, none, some}
use Rattle.format.specs.Bytes.{Answer, ok, refused, bind, on_answer, Step, step, has, reads, byte, u16_at, u32_at}
use Rattle.format.specs.Reading.{Read, reading, Part, part, add, and_then, in_turn}
use Rattle.format.specs.Rows.{TextRow, LineRow, line_row}
use Rattle.format.specs.Irep.{Rec}
use Rattle.format.specs.Walk.{walk}
use Rattle.format.specs.Lvar.{plain_text}
use Rattle.format.specs.Packed.{packed_entry, keeps}

-- "File: start 4, name index 2, count 4, kind 1.", and the place behind them
pub record FileHead : Type 0 where
  pub start : ℕ
  pub name : ℕ
  pub count : ℕ
  pub kind : ℕ
  pub next : ℕ

abbrev pub above : Option ℕ → ℕ → Bool
above none start = true
above (some last) start = ltb last start

-- "12: a debug start not above the previous file's, a name index or kind out of range": each where reading meets it
unfoldable pub file_head : List ℕ → ℕ → Option ℕ → ℕ → Answer FileHead
file_head s names last at =
    cond (has s at 4)
    (cond (above last (u32_at s at))
    (cond (has s (at + 4) 2)
    (cond (ltb (u16_at s (at + 4)) names)
    (cond (has s (at + 6) 5)
    (cond (leb (byte s (at + 10)) 2)
    (ok (record { start = u32_at s at; name = u16_at s (at + 4); count = u32_at s (at + 6); kind = byte s (at + 10); next = at + 11 }))
    (refused 12))
    (refused 7))
    (refused 12))
    (refused 7))
    (refused 12))
    (refused 7)

-- The entry at `at` of a map of this kind. e is the entry before it, of kind 0 with the position that comes next instead of its own.
-- "Kind 0: count lines of 2 bytes at start, start + 1, and so on."; "13: a kind 0 position above 4294967295, its line read."
-- "Kind 1: count pairs of position 4, line 2." "Kind 2: pairs of packed deltas"
unfoldable pub map_entry : List ℕ → ℕ → LineRow → ℕ → Answer (Step LineRow)
map_entry s kind e at =
    cond (eqb kind 0)
    (cond (has s at 2) (cond (ltb 4294967295 e.pos) (refused 13) (ok (step (line_row e.pos (u16_at s at)) (at + 2)))) (refused 7))
    (cond (eqb kind 1) (reads s at 6 (step (line_row (u32_at s at) (u16_at s (at + 4))) (at + 6)))
    (packed_entry s at e.pos e.line))

-- what the entry after this one goes by
abbrev pub after : ℕ → LineRow → LineRow
after kind e = cond (eqb kind 0) (line_row (e.pos + 1) e.line) e

-- "while the place is below count bytes on": kind 2 goes by the place alone, and has at most count entries
abbrev pub goes_on : ℕ → ℕ → ℕ → Bool
goes_on kind end at = cond (eqb kind 2) (ltb at end) true

abbrev pub keep : Option ℕ → LineRow → Read LineRow → Read LineRow
keep last e x = cond (keeps last e.line) (add e x) x

-- at most n entries more, from `at` on, with the entry before them and its line, if there is one
unfoldable pub map_lines : List ℕ → ℕ → ℕ → ℕ → LineRow → Option ℕ → ℕ → Read LineRow
map_lines s kind end zero e last at = reading [] (ok at)
map_lines s kind end (suc n) e last at =
    cond (goes_on kind end at)
    (on_answer (map_entry s kind e at)
    (λ x. keep last x.it (map_lines s kind end n (after kind x.it) (some x.it.line) x.next))
    (λ k. reading [] (refused k)))
    (reading [] (ok at))

-- the lines of a file: kind 0 starts at the file's start, the sums of kind 2 "start at 0 in each file"
abbrev pub file_lines : List ℕ → FileHead → Read LineRow
file_lines s h = map_lines s h.kind (h.next + h.count) h.count (line_row (cond (eqb h.kind 0) h.start 0) 0) none h.next

-- a debug file: its lines may be cut short by a refusal
pub record File : Type 0 where
  pub start : ℕ
  pub name : ℕ
  pub lines : List LineRow

-- n files in turn, behind one with the start `last`
unfoldable pub files_from : List ℕ → ℕ → ℕ → Option ℕ → ℕ → Read File
files_from s names zero last at = reading [] (ok at)
files_from s names (suc n) last at =
    on_answer (file_head s names last at)
    (λ h.
    let l = file_lines s h in
    add (record { start = h.start; name = h.name; lines = l.rows }) (and_then l.end (files_from s names n (some h.start))))
    (λ k. reading [] (refused k))

-- "Debug record: size 4, file count 2, files."; "12: .. a debug record's size other than the bytes read for it"
unfoldable pub debug_record : List ℕ → ℕ → Rec → ℕ → Part (List File)
debug_record s names r at =
    cond (has s at 6)
    (let d = files_from s names (u16_at s (at + 4)) none (at + 6) in
    part d.rows (bind d.end (λ e. cond (eqb (e - at) (u32_at s at)) (ok e) (refused 12))))
    (part [] (refused 7))

-- the file names, and the debug files of each record that the walk visits
pub record Debug : Type 0 where
  pub file_names : List TextRow
  pub files : List (List File)

-- inside the section: "file name count 2, names as in LVAR, then the same walk; a visit also reads nothing once the section is used up"
unfoldable pub debug_content : List ℕ → ℕ → List Rec → Part Debug
debug_content s base rs =
    cond (has s 8 2)
    (let n = in_turn (plain_text s base) (u16_at s 8) 10 in
    let d = and_then n.end (walk (debug_record s (u16_at s 8)) (leb (length s)) rs 1) in
    part (record { file_names = n.rows; files = d.rows }) (bind d.end (λ _. ok (length s))))
    (part (record { file_names = []; files = [] }) (refused 7))

unfoldable pub debug_section : List ℕ → ℕ → List Rec → Part Debug
debug_section f base rs =
    cond (has f 0 8)
    (cond (leb (u32_at f 4) (length f)) (debug_content (take (u32_at f 4) f) base rs) (part (record { file_names = []; files = [] }) (refused 7)))
    (part (record { file_names = []; files = [] }) (refused 7))
