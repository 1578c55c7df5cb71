-- Laws of the transformers of a line map, which the readers' proofs cite.
-- Assumes nothing.
use Prim.Native.Nat.{ℕ, zero, suc, ◌+◌, ◌-◌, ◌%◌, ◌<◌, ◌≤◌}
use native.Mathlib.Omega.{arith}
use mathlib.Core.Path.{◌≡◌, refl}
use mathlib.Core.Bool.{true, false}
use mathlib.Core.List.{List}
use mathlib.Core.Option.{Option}
use Rattle.format.specs.Bytes.{ok, refused}
use Rattle.format.specs.Rows.{LineRow}
use Rattle.format.specs.Packed.{wrap, packed_entry}
use Rattle.format.specs.Debug.{goes_on}
use Rattle.line.specs.Answers.{line_of as line}
use Rattle.rows.specs.Table.{out, next}
use Rattle.linemap.specs.declared.OneLine.{OneLine}
use Rattle.linemap.specs.Answers.{before_of}
use Rattle.linemap.specs.Lines.{line_run, entry_put, lines_of}

-- a sum wraps the same from a position and from what is left of it in 32 bits
wrap_wrap : (p d : ℕ) → wrap (p % 4294967296 + d) ≡ wrap (p + d)
wrap_wrap p d = omega arith

pub packed_wrap : (s : List ℕ) (at p l : ℕ) → packed_entry s at (p % 4294967296) l ≡ packed_entry s at p l
unfolding packed_entry
packed_wrap s at p l = simp wrap_wrap

pub nothing : {n : ℕ} → suc n ≤ 0 → ⊥
nothing p = omega arith

-- the entries of a map: r is what the next entry answers
module _ (s : List ℕ) (kind end : ℕ) where
  -- a turn that goes on
  pub lines_go : (n : ℕ) (e : LineRow) (last : Option ℕ) (at u : ℕ) (t : List ℕ) (r : OneLine) (t' : List ℕ) → 0 < n
      → goes_on kind end at ≡ true → line_run (ok r) t' ≡ entry_put s kind e last at u t
      → lines_of s kind end (n - 1) (before_of r.before) (line r.last) r.rows.at r.rows.used t' ≡ lines_of s kind end n e last at u t
  unfolding lines_of
  lines_go zero e last at u t r t' p g h = elim (nothing p) [ ]
  lines_go (suc n) e last at u t r t' p g h = let k : suc n - 1 ≡ n = omega arith in rw (k, g, ← h)

  -- a turn that refuses
  pub lines_no : (n : ℕ) (e : LineRow) (last : Option ℕ) (at u : ℕ) (t : List ℕ) (k : ℕ) (t' : List ℕ) → 0 < n
      → goes_on kind end at ≡ true → line_run (refused k) t' ≡ entry_put s kind e last at u t
      → out (refused k) t' ≡ lines_of s kind end n e last at u t
  unfolding lines_of
  lines_no zero e last at u t k t' p g h = elim (nothing p) [ ]
  lines_no (suc n) e last at u t k t' p g h = rw (g, ← h)

  -- a map that ends at its place
  pub lines_end : (n : ℕ) (e : LineRow) (last : Option ℕ) (at u : ℕ) (t : List ℕ) → goes_on kind end at ≡ false → out (next at u) t ≡ lines_of s kind end n e last at u t
  unfolding lines_of
  lines_end zero e last at u t g = refl
  lines_end (suc n) e last at u t g = rw g
