-- The bytes of a field of any length.
-- Assumes nothing.
use Rattle.std.specs.Prelude.{ℕ, zero, suc, ◌+◌, List, [], ◌∷◌}
use Rattle.format.specs.Bytes.{byte}

-- the n bytes at a place: those of the format's two_at, four_at and eight_at where n is 2, 4 and 8
abbrev pub bytes_at : ℕ → List ℕ → ℕ → List ℕ
bytes_at zero f at = []
bytes_at (suc n) f at = byte f at ∷ bytes_at n f (at + 1)
