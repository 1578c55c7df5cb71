-- What conditions 16, 25, 32, 17 and 18 answer over the code of a record by a list q of permitted opcodes, and what they leave in the flags.
-- Assumes nothing.
use Rattle.std.specs.Prelude.{ℕ, ◌<◌, ◌≡◌, List, length, get_or}
use Rattle.format.specs.Bytes.{first}
use Rattle.format.specs.Exam.{exam16, exam32, exam1718}
use Rattle.flags.specs.Flags.{bare, Marked, Flagged}

-- the first n flags are 0
pub record Cleared (before : List ℕ) (n : ℕ) (flags : List ℕ) : Type 0 where
  pub long : length flags ≡ length before
  pub none : (o : ℕ) → o < n → get_or flags o 0 ≡ 0

-- n is what 16 and 25, then 32 answer, and where that is 0 the flags are set
pub record Marks (l q c flags : List ℕ) (n : ℕ) : Type 0 where
  pub answers : n ≡ first (exam16 c) (exam32 q c)
  pub flagged : n ≡ 0 → Flagged l c flags

-- n is what 16 and 25, then 32, then 17 and 18 answer, and where that is 0 the flags say where instructions begin
pub record Coded (l q c flags : List ℕ) (n : ℕ) : Type 0 where
  pub answers : n ≡ first (first (exam16 c) (exam32 q c)) (exam1718 (bare l c))
  pub marked : n ≡ 0 → Marked c flags
