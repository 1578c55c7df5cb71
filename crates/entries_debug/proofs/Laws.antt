-- The part of the line table that is a record's map, and the line of an offset in it.
-- Assumes nothing.
use Prim.Native.Nat.{ℕ, ◌+◌, ◌*◌, ◌-◌, ◌/◌, ◌≤◌, ◌<◌}
use native.Mathlib.Omega.{arith}
use mathlib.Core.Path.{◌≡◌, sym, ap, ◌∙◌}
use mathlib.Core.List.{List}
use mathlib.Core.Option.{Option, none}
use lib.ListN.{length, get_or, take, drop, length-drop}
use lib.Seq.{length-take-le, get_or-take, get_or-drop, ext_get_or}
use borrow.Author.Tests.{lt-leb, le-leb, ne_eqb}
use Rattle.std.specs.List.{slice_range}
use Rattle.format.specs.Bytes.{ok, refused}
use Rattle.format.specs.Rows.{Range, line_row}
use Rattle.format.specs.Line.{halve, line_at, rows_from, line_row_at, map_of}
use Rattle.format.specs.Lookup as format
use Rattle.format.proofs.RowsFrom.{rows_from_length, rows_from_at, map_length, map_entry_lem}
use Rattle.entries_debug.specs.Lines.{line_in}

-- a part of the line table is the rows that it holds
module _ (l : List ℕ) (g : Range) (inside : (g.first + g.number) * 2 ≤ length l) where
  abbrev part : List ℕ
  part = take ((g.first + g.number) * 2 - g.first * 2) (drop (g.first * 2) l)

  part_length : length part ≡ g.number * 2
  part_length =
      let n : (g.first + g.number) * 2 - g.first * 2 ≡ g.number * 2 = omega arith in
      rw n (length-take-le (g.number * 2) (drop (g.first * 2) l) (rw length-drop (omega arith)))

  part_word : (i : ℕ) → i < g.number * 2 → get_or part i 0 ≡ get_or l (g.first * 2 + i) 0
  part_word i h = get_or-take ((g.first + g.number) * 2 - g.first * 2) (drop (g.first * 2) l) i 0 (omega arith) ∙ get_or-drop (g.first * 2) l i 0

  pub part_map : map_of part ≡ rows_from (line_row_at l) g.first g.number
  part_map =
      let n : length part / 2 ≡ g.number = omega (arith, part_length) in
      ext_get_or (line_row 0 0) (map_of part) (rows_from (line_row_at l) g.first g.number) (map_length part ∙ n ∙ sym (rows_from_length (line_row_at l) g.first g.number))
      (λ i h.
      let k : i < g.number = omega (arith, n, map_length part, h) in
      let p : g.first * 2 + i * 2 ≡ (g.first + i) * 2 = omega arith in
      let q : g.first * 2 + (i * 2 + 1) ≡ (g.first + i) * 2 + 1 = omega arith in
      map_entry_lem part i (omega (arith, n, k))
      ∙ rw (part_word (i * 2) (omega (arith, k)), part_word (i * 2 + 1) (omega (arith, k)), p, q) (sym (rows_from_at (line_row_at l) g.first g.number i (line_row 0 0) k)))

-- the line of an offset in no rows, and in rows of the line table
module _ (l : List ℕ) (g : Range) (p : ℕ) where
  pub line_none : g.number ≡ 0 → ok none ≡ line_in l g p
  unfolding format.rows_in line_at halve rows_from
  line_none e = rw e

  pub line_past : ¬ (g.number ≡ 0) → length l < (g.first + g.number) * 2 → refused 22 ≡ line_in l g p
  unfolding format.rows_in
  line_past ne h = rw (ne_eqb g.number 0 ne, lt-leb (g.first + g.number) (length l / 2) (omega arith))

  pub line_part : (o : Option ℕ) (m : List ℕ) → ¬ (g.number ≡ 0) → (g.first + g.number) * 2 ≤ length l → m ≡ slice_range l (g.first * 2) ((g.first + g.number) * 2) → o ≡ line_at (map_of m) p
      → ok o ≡ line_in l g p
  unfolding format.rows_in
  line_part o m ne h q e =
      rw (ne_eqb g.number 0 ne, le-leb (g.first + g.number) (length l / 2) (omega arith)) (ap ok (e ∙ ap (λ m. line_at (map_of m) p) q ∙ ap (λ m. line_at m p) (part_map l g h)))
