-- Packed numbers, sums of 32 bits, and the lines that a map drops. Paper 01, 'Loading'.
-- Assumes nothing.
use Rattle.std.specs.Prelude.{ℕ, zero, suc, ◌+◌, ◌*◌, ◌%◌, Bool, true, cond, not, List, ltb, eqb, length}
use Rattle.std.proofs.Math.Option.{Option, none, some}
use Rattle.format.specs.Bytes.{Answer, ok, refused, bind, Step, step, byte}
use Rattle.format.specs.Rows.{LineRow, line_row}

-- "both sums wrap at 32 bits", "bits above 31 drop"
abbrev pub wrap : ℕ → ℕ
wrap n = n % 4294967296

-- "Packed: low 7 bits first, at most five bytes". A byte of 128 or more goes on in the next. Of the bytes that may still come, `left`:
-- past the end is 7; "a fifth packed byte that continues" is 12.
unfoldable pub packed_from : List ℕ → ℕ → ℕ → Answer (Step ℕ)
packed_from s zero at = refused 12
packed_from s (suc left) at =
    cond (ltb at (length s))
    (cond (ltb (byte s at) 128) (ok (step (byte s at) (at + 1)))
    (bind (packed_from s left (at + 1)) (λ r. ok (step (wrap (byte s at % 128 + 128 * r.it)) r.next))))
    (refused 7)

unfoldable pub packed : List ℕ → ℕ → Answer (Step ℕ)
packed s at = packed_from s 5 at

-- "Kind 2: pairs of packed deltas": the entry after the one with position p and line l
unfoldable pub packed_entry : List ℕ → ℕ → ℕ → ℕ → Answer (Step LineRow)
packed_entry s at p l =
    bind (packed s at) (λ a. bind (packed s a.next) (λ b. ok (step (line_row (wrap (p + a.it)) (wrap (l + b.it))) b.next)))

-- "An entry whose line equals that file's previous entry is dropped." A file's first entry has none before it.
abbrev pub keeps : Option ℕ → ℕ → Bool
keeps none line = true
keeps (some last) line = not (eqb last line)
