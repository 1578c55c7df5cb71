-- The bytes at a place are those of the slice that starts there.
-- Assumes nothing.
use Rattle.std.proofs.Common.{◌≡◌, ℕ, zero, suc, ◌+◌, ◌≤◌, List, ◌∷◌, length, take, drop, refl, ap, ◌∙◌, arith}
use Rattle.std.proofs.lemmas.List.{drop_more}
use Rattle.format.specs.Bytes.{byte}
use Rattle.binfmt.specs.Bytes.{bytes_at}

pub slice_bytes : (n : ℕ) (s : List ℕ) (at : ℕ) → at + n ≤ length s → take n (drop at s) ≡ bytes_at n s at
slice_bytes zero s at h = refl
slice_bytes (suc n) s at h = ap (take (suc n)) (drop_more s at 0 (omega arith)) ∙ ap (λ bs. byte s at ∷ bs) (slice_bytes n s (at + 1) (omega arith))
