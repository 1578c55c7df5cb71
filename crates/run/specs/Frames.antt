-- The frames that a lent frame table holds, read back from its words.
-- Assumes nothing.
use Rattle.std.specs.Prelude.{ℕ, zero, suc, ◌+◌, ◌*◌, ◌≡◌, List, [], ◌∷◌, length, get_or}
use Rattle.format.specs.Pattern.{Pattern}
use Rattle.format.specs.Run.{Frame, frame, frame_table}
use Rattle.runs.specs.Stack.{Stack}

-- row i of the table
abbrev pub frame_at : List ℕ → ℕ → Frame
frame_at t i = frame (get_or t (i * 2) 0) (get_or t (i * 2 + 1) 0)

-- its lowest d rows, the top frame first
unfoldable pub frames_of : List ℕ → ℕ → List Frame
frames_of t zero = []
frames_of t (suc d) = frame_at t d ∷ frames_of t d

-- the table holds these d frames, which are those of a run
pub record Held (p : Pattern) (t : List ℕ) (d : ℕ) (fs : List Frame) : Type 0 where
  pub table : t ≡ frame_table (length t) fs
  pub deep : d ≡ length fs
  pub stack : Stack p (length p) fs
