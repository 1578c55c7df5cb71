-- The LVAR and the DBG section have at most as many rows of each kind as bytes.
-- Assumes nothing.
use Prim.Native.Nat.{ℕ, zero, suc, ◌+◌, ◌-◌, ◌≤◌}
use native.Mathlib.Omega.{arith}
use mathlib.Core.Path.{◌≡◌, refl}
use mathlib.Core.Bool.{Bool, false, cond}
use mathlib.Core.List.{List, [], ◌∷◌, ◌++◌}
use mathlib.Core.Option.{Option, some, none}
use lib.Dec.{leb, eqb}
use lib.ListN.{length, take, length-append}
use lib.Seq.{length-take-le}
use borrow.Author.Tests.{leb-true}
use Rattle.format.specs.Bytes.{Answer, ok, refused, bind, has, u16_at, u32_at}
use Rattle.format.specs.Reading.{Part, and_then, in_turn}
use Rattle.format.specs.Rows.{LineRow}
use Rattle.format.specs.Irep.{Rec}
use Rattle.format.specs.Walk.{walk}
use Rattle.format.specs.Lvar.{plain_text, name_entry, record_names, Lvar, lvar_section}
use Rattle.format.specs.Packed.{keeps}
use Rattle.format.specs.Debug.{file_head, map_entry, after, goes_on, map_lines, file_lines, File, files_from, debug_record, Debug, debug_content, debug_section}
use Rattle.format.specs.Load.{joined, gathered, map_of_files}
use Rattle.format.proofs.Answers.{either, answered}
use Rattle.bounds.proofs.Covers.{Within, Reads, Takes, Additive, length_additive, none_within, cut_within, more_within, and_then_within, in_turn_within, walk_within}
use Rattle.bounds.proofs.Parsers.{plain_text_moves, name_entry_moves, map_entry_moves, file_head_moves}

-- lists gathered from two lists
gathered_append : {A B : Type 0} (f : A → List B) (a b : List A) → length (gathered f (a ++ b)) ≡ length (gathered f a) + length (gathered f b)
gathered_append f [] b = omega arith
gathered_append f (x ∷ a) b =
    let ih = gathered_append f a b in
    omega (arith, length-append (f x) (gathered f (a ++ b)), length-append (f x) (gathered f a))

-- files with their lines
abbrev pub files_and_lines : List File → ℕ
files_and_lines fs = length fs + length (map_of_files fs)

-- the rows of a section
abbrev pub lvar_count : Lvar → ℕ
lvar_count l = length l.strings + length (joined l.names)

abbrev pub debug_count : Debug → ℕ
debug_count d = length d.file_names + files_and_lines (joined d.files)

-- both counts may be taken list by list
files_additive : Additive files_and_lines
files_additive = record { none = refl; both = λ a b. omega (arith, length-append a b, gathered_append (λ f. f.lines) a b) }

module _ (s : List ℕ) where
  -- the lines of a map, dropped ones or not, and the files of a record with theirs
  pub map_lines_within : (kind end n : ℕ) (e : LineRow) (last : Option ℕ) (at : ℕ) → at ≤ length s
      → Reads (length s) length at (map_lines s kind end n e last at)
  unfolding map_lines
  map_lines_within kind end zero e last at h = none_within (length s) at h
  map_lines_within kind end (suc n) e last at h =
      either (Reads (length s) length at) (goes_on kind end at) _ _
      (λ _. answered _ _ (Reads (length s) length at) (map_entry s kind e at) _ _ (map_entry_moves s kind e at)
      (λ x c.
      let d = map_lines_within kind end n (after kind x.it) (some x.it.line) x.next c.high in
      either (Reads (length s) length at) (keeps last x.it.line) _ _
      (λ _. record { low = omega arith; high = d.high })
      (λ _. record { low = omega arith; high = d.high }))
      (λ _ _. cut_within (length s) at h))
      (λ _. none_within (length s) at h)

  pub files_from_within : (names n : ℕ) (last : Option ℕ) (at : ℕ) → at ≤ length s → Reads (length s) files_and_lines at (files_from s names n last at)
  unfolding files_from
  files_from_within names zero last at h = none_within (length s) at h
  files_from_within names (suc n) last at h =
      answered _ _ (Reads (length s) files_and_lines at) (file_head s names last at) _ _ (file_head_moves s names last at)
      (λ x c.
      let l = file_lines s x in
      let k = files_from s names n (some x.start) in
      let d = map_lines_within x.kind (x.next + x.count) x.count _ none x.next c.high in
      let t = and_then_within (length s) files_and_lines refl at (1 + length l.rows) l.end k
      (more_within (length s) at 1 (length l.rows) x.next _ c d) (files_from_within names n (some x.start)) in
      record { low = omega (arith, length-append l.rows (map_of_files (and_then l.end k).rows)); high = t.high })
      (λ _ _. cut_within (length s) at h)

  -- a visited record's files, and its names
  pub debug_record_within : (names : ℕ) (r : Rec) (at : ℕ) → at ≤ length s → Takes (length s) files_and_lines at (debug_record s names r at)
  unfolding debug_record
  debug_record_within names r at h =
      either (Takes (length s) files_and_lines at) (has s at 6) _ _
      (λ a. sized (files_from s names (u16_at s (at + 4)) none (at + 6)).end _ (files_from_within names (u16_at s (at + 4)) none (at + 6) (omega (arith, leb-true))))
      (λ _. cut_within (length s) at h)
    where
      sized : (e : Answer ℕ) (n : ℕ) → Within (length s) (at + 6) n e
          → Within (length s) at n (bind e (λ e. cond (eqb (e - at) (u32_at s at)) (ok e) (refused 12)))
      sized (refused e) n c = record { low = omega arith; high = omega arith }
      sized (ok next) n c =
          either (Within (length s) at n) (eqb (next - at) (u32_at s at)) _ _
          (λ _. record { low = omega arith; high = c.high })
          (λ _. record { low = omega arith; high = omega arith })

  pub record_names_within : (count : ℕ) (r : Rec) (at : ℕ) → at ≤ length s → Takes (length s) length at (record_names s count r at)
  unfolding record_names
  record_names_within count r at h =
      either (Takes (length s) length at) (eqb r.head.nlocals 0) _ _
      (λ _. cut_within (length s) at h)
      (λ _. in_turn_within (length s) (name_entry s count) (name_entry_moves s count) (r.head.nlocals - 1) at h)

  -- the section's strings, and the rows of the walk behind them
  texts_and_walk : {R : Type 0} (w : List R → ℕ) → Additive w → (visit : Rec → ℕ → Part (List R))
      → ((r : Rec) (at : ℕ) → at ≤ length s → Takes (length s) w at (visit r at))
      → (spent : ℕ → Bool) (rs : List Rec) (base count at : ℕ) → at ≤ length s
      → length (in_turn (plain_text s base) count at).rows + w (joined (and_then (in_turn (plain_text s base) count at).end (walk visit spent rs 1)).rows) ≤ length s
  texts_and_walk w a visit v spent rs base count at h =
      let t = in_turn (plain_text s base) count at in
      let c = and_then_within (length s) (λ ls. w (joined ls)) a.none at (length t.rows) t.end (walk visit spent rs 1)
      (in_turn_within (length s) (plain_text s base) (plain_text_moves s base) count at h) (walk_within (length s) w a visit v spent rs 1) in
      omega arith

  -- the sections
  pub lvar_section_rows : (base : ℕ) (rs : List Rec) → lvar_count (lvar_section s base rs).it ≤ length s
  unfolding lvar_section
  lvar_section_rows base rs =
      either (λ (x : Part Lvar). lvar_count x.it ≤ length s) (has s 0 12) _ _
      (λ a. texts_and_walk length length_additive (record_names s (u32_at s 8)) (record_names_within (u32_at s 8)) (λ _. false) rs base (u32_at s 8) 12 (omega (arith, leb-true)))
      (λ _. omega arith)

  debug_content_rows : (base : ℕ) (rs : List Rec) → debug_count (debug_content s base rs).it ≤ length s
  unfolding debug_content
  debug_content_rows base rs =
      either (λ (x : Part Debug). debug_count x.it ≤ length s) (has s 8 2) _ _
      (λ a. texts_and_walk files_and_lines files_additive (debug_record s (u16_at s 8)) (debug_record_within (u16_at s 8)) (leb (length s)) rs base (u16_at s 8) 10 (omega (arith, leb-true)))
      (λ _. omega arith)

pub debug_section_rows : (f : List ℕ) (base : ℕ) (rs : List Rec) → debug_count (debug_section f base rs).it ≤ length f
unfolding debug_section
debug_section_rows f base rs =
    either (λ (x : Part Debug). debug_count x.it ≤ length f) (has f 0 8) _ _
    (λ _. either (λ (x : Part Debug). debug_count x.it ≤ length f) (leb (u32_at f 4) (length f)) _ _
    (λ a. omega (arith, leb-true, length-take-le (u32_at f 4) f (leb-true _ _ a), debug_content_rows (take (u32_at f 4) f) base rs))
    (λ _. omega arith))
    (λ _. omega arith)
