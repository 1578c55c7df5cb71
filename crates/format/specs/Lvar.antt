-- The LVAR section. f is the part of the file from the section's start on, base that start. Paper 01, 'Loading'.
-- Assumes nothing.
use Rattle.std.specs.Prelude.{ℕ, ◌+◌, ◌-◌, false, ◌||◌, cond, List, [], leb, ltb, eqb, length}
use Rattle.format.specs.Bytes.{Answer, ok, refused, bind, Step, step, has, no_zero, u16_at, u32_at}
use Rattle.format.specs.Reading.{Part, part, and_then, in_turn}
use Rattle.format.specs.Rows.{TextRow, text_row, NameRow, name_row}
use Rattle.format.specs.Irep.{Rec}
use Rattle.format.specs.Walk.{walk}

-- "strings (length 2, bytes without any zero)", and "names as in LVAR"
unfoldable pub plain_text : List ℕ → ℕ → ℕ → Answer (Step TextRow)
plain_text f base at =
    cond (has f at 2)
    (cond (has f (at + 2) (u16_at f at))
    (cond (no_zero f (u16_at f at) (at + 2)) (ok (step (text_row (base + (at + 2)) (u16_at f at)) (at + 2 + u16_at f at))) (refused 9))
    (refused 7))
    (refused 7)

-- "entries of 2 bytes, each a string index or 65535 for unnamed"; "11: .. a name index is neither 65535 nor below the count"
unfoldable pub name_entry : List ℕ → ℕ → ℕ → Answer (Step NameRow)
name_entry f count at =
    cond (has f at 2)
    (cond (eqb (u16_at f at) 65535 || ltb (u16_at f at) count) (ok (step (name_row (u16_at f at)) (at + 2))) (refused 11))
    (refused 7)

-- "A visited record takes nlocals - 1 entries"; "11: a visited record has nlocals 0"
unfoldable pub record_names : List ℕ → ℕ → Rec → ℕ → Part (List NameRow)
record_names f count r at =
    cond (eqb r.head.nlocals 0) (part [] (refused 11))
    (let n = in_turn (name_entry f count) (r.head.nlocals - 1) at in part n.rows n.end)

-- the strings, and the names of each record that the walk visits
pub record Lvar : Type 0 where
  pub strings : List TextRow
  pub names : List (List NameRow)

-- "LVAR: string count 4, then strings .., then the walk from record 0. .. Size is tested after the content."
unfoldable pub lvar_section : List ℕ → ℕ → List Rec → Part Lvar
lvar_section f base rs =
    cond (has f 0 12)
    (let s = in_turn (plain_text f base) (u32_at f 8) 12 in
    let n = and_then s.end (walk (record_names f (u32_at f 8)) (λ _. false) rs 1) in
    part (record { strings = s.rows; names = n.rows })
    (bind n.end (λ _. cond (eqb (u32_at f 4) 0) (refused 8) (cond (leb (u32_at f 4) (length f)) (ok (u32_at f 4)) (refused 7)))))
    (part (record { strings = []; names = [] }) (refused 7))
