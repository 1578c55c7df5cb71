-- What a file's tests leave of a file that they do not refuse.
-- Assumes nothing.
use Prim.Native.Nat.{ℕ, ◌≤◌}
use mathlib.Core.Path.{◌≡◌}
use mathlib.Core.List.{List}
use lib.Dec.{T, leb, leb→le}
use lib.ListN.{length}
use Rattle.format.specs.Bytes.{refuse}
use Rattle.format.specs.Allowance.{desktop}
use Rattle.format.specs.File.{ident_is_rite, stated_size, major_is04, file_refusal}
use Rattle.format.proofs.Answers.{first_zero, refuse_zero}

-- none of 1, 29, 2, 27, 28, 3 and 4, where so many bytes are allowed
pub record Accepted (f : List ℕ) (allowed : ℕ) : Type 0 where
  pub small : length f ≤ desktop.bytes
  pub within : length f ≤ allowed
  pub rite : T (ident_is_rite f)
  pub sized : stated_size f ≤ length f
  pub major : T (major_is04 f)
  pub long : 32 ≤ length f

pub accepted : (f : List ℕ) (allowed : ℕ) → file_refusal f allowed ≡ 0 → Accepted f allowed
unfolding file_refusal
accepted f allowed e =
    let n = length f in
    let a = first_zero (refuse 1 (leb n desktop.bytes)) _ e in
    let w = first_zero (refuse 29 (leb n allowed)) _ a.1 in
    let b = first_zero (refuse 2 (leb 20 n)) _ w.1 in
    let c = first_zero (refuse 27 (ident_is_rite f)) _ b.1 in
    let d = first_zero (refuse 28 (leb (stated_size f) n)) _ c.1 in
    let g = first_zero (refuse 3 (major_is04 f)) _ d.1 in
    record {
      small = leb→le n desktop.bytes (refuse_zero 0 (leb n desktop.bytes) a.0);
      within = leb→le n allowed (refuse_zero 28 (leb n allowed) w.0);
      rite = refuse_zero 26 (ident_is_rite f) c.0;
      sized = leb→le (stated_size f) n (refuse_zero 27 (leb (stated_size f) n) d.0);
      major = refuse_zero 2 (major_is04 f) g.0;
      long = leb→le 32 n (refuse_zero 3 (leb 32 n) g.1);
    }
