-- What a caller lets a file have. Paper 02, h).
-- Assumes nothing.
use Rattle.std.specs.Prelude.{ℕ, ◌≤◌, cond, leb}

-- "with the allowance as an argument": so many bytes, and so many records
pub record Allowance : Type 0 where
  pub bytes : ℕ
  pub records : ℕ

abbrev pub allowance : ℕ → ℕ → Allowance
allowance b r = record { bytes = b; records = r }

-- "The desktop keeps 65,536 and 1,024."
abbrev pub desktop : Allowance
desktop = allowance 65536 1024

-- "The preview page takes 16,384 bytes and 64 records."
abbrev pub preview : Allowance
preview = allowance 16384 64

-- "A larger number in it counts as the desktop's."
abbrev pub least : ℕ → ℕ → ℕ
least a b = cond (leb a b) a b

abbrev pub granted : Allowance → Allowance
granted a = allowance (least a.bytes desktop.bytes) (least a.records desktop.records)

-- "any that is nowhere smaller": the second is nowhere smaller than the first
pub record Within (a b : Allowance) : Type 0 where
  pub bytes : a.bytes ≤ b.bytes
  pub records : a.records ≤ b.records
