-- The parsers of names, strings and map entries move on and stay inside the part that they read.
-- Assumes nothing.
use Prim.Native.Nat.{ℕ, zero, suc, ◌+◌}
use native.Mathlib.Omega.{arith}
use mathlib.Core.Bool.{◌||◌}
use mathlib.Core.List.{List}
use mathlib.Core.Option.{Option}
use lib.Dec.{leb, ltb, eqb}
use lib.ListN.{length}
use borrow.Author.Tests.{leb-true, ltb-true}
use Rattle.format.specs.Bytes.{has, byte, no_zero, u16_at, u32_at}
use Rattle.format.specs.Rows.{LineRow}
use Rattle.format.specs.Lvar.{plain_text, name_entry}
use Rattle.format.specs.Packed.{packed_from, packed, packed_entry}
use Rattle.format.specs.Debug.{above, file_head, map_entry}
use Rattle.format.proofs.Answers.{either, Answers, tested, chained}
use Rattle.bounds.proofs.Covers.{Covers, Moves}

module _ (f : List ℕ) where
  -- "strings (length 2, bytes without any zero)", and entries of 2 bytes
  pub plain_text_moves : (base at : ℕ) → Moves (length f) at (plain_text f base at)
  unfolding plain_text
  plain_text_moves base at =
      tested _ _ (has f at 2) _ 7 tt (λ a. tested _ _ (has f (at + 2) (u16_at f at)) _ 7 tt (λ b. tested _ _ (no_zero f (u16_at f at) (at + 2)) _ 9 tt (λ _.
      record { low = omega arith; high = omega (arith, leb-true) })))

  pub name_entry_moves : (count at : ℕ) → Moves (length f) at (name_entry f count at)
  unfolding name_entry
  name_entry_moves count at =
      tested _ _ (has f at 2) _ 7 tt (λ a. tested _ _ (eqb (u16_at f at) 65535 || ltb (u16_at f at) count) _ 11 tt (λ _.
      record { low = omega arith; high = omega (arith, leb-true) }))

  -- packed numbers, and the entries of a map of each kind
  packed_from_moves : (left at : ℕ) → Moves (length f) at (packed_from f left at)
  unfolding packed_from
  packed_from_moves zero at = tt
  packed_from_moves (suc left) at =
      tested _ _ (ltb at (length f)) _ 7 tt (λ a. either (Answers _) (ltb (byte f at) 128) _ _
      (λ _. record { low = omega arith; high = omega (arith, ltb-true) })
      (λ _. chained _ _ _ (packed_from f left (at + 1)) _ (packed_from_moves left (at + 1)) (λ r c. record { low = omega arith; high = c.high })))

  pub packed_moves : (at : ℕ) → Moves (length f) at (packed f at)
  unfolding packed
  packed_moves at = packed_from_moves 5 at

  pub packed_entry_moves : (at p l : ℕ) → Moves (length f) at (packed_entry f at p l)
  unfolding packed_entry
  packed_entry_moves at p l =
      chained _ _ _ (packed f at) _ (packed_moves at) (λ a c. chained _ _ _ (packed f a.next) _ (packed_moves a.next) (λ b d.
      record { low = omega arith; high = d.high }))

  pub map_entry_moves : (kind : ℕ) (e : LineRow) (at : ℕ) → Moves (length f) at (map_entry f kind e at)
  unfolding map_entry
  map_entry_moves kind e at =
      either (Answers _) (eqb kind 0) _ _
      (λ _. tested _ _ (has f at 2) _ 7 tt (λ a. either (Answers _) (ltb 4294967295 e.pos) _ _ (λ _. tt) (λ _. record { low = omega arith; high = omega (arith, leb-true) })))
      (λ _. either (Answers _) (eqb kind 1) _ _
      (λ _. tested _ _ (has f at 6) _ 7 tt (λ a. record { low = omega arith; high = omega (arith, leb-true) }))
      (λ _. packed_entry_moves at e.pos e.line))

  -- the 11 bytes of a file's head
  pub file_head_moves : (names : ℕ) (last : Option ℕ) (at : ℕ) → Answers (λ h. Covers (length f) at 1 h.next) (file_head f names last at)
  unfolding file_head
  file_head_moves names last at =
      tested _ _ (has f at 4) _ 7 tt (λ _. tested _ _ (above last (u32_at f at)) _ 12 tt (λ _. tested _ _ (has f (at + 4) 2) _ 7 tt (λ _.
      tested _ _ (ltb (u16_at f (at + 4)) names) _ 12 tt (λ _. tested _ _ (has f (at + 6) 5) _ 7 tt (λ a. tested _ _ (leb (byte f (at + 10)) 2) _ 12 tt (λ _.
      record { low = omega arith; high = omega (arith, leb-true) }))))))
