-- The invariant of a run, and what is known of an instruction in a record that passes.
-- Assumes nothing.
use Rattle.std.specs.Prelude.{ℕ, ◌<◌, not, List, [], ◌∷◌, T}
use Rattle.format.specs.Insn.{flow, row_at}
use Rattle.format.specs.Pattern.{Pattern, begins, lands}
use Rattle.format.specs.Exam.{stray, readable, has_target, follows}
use Rattle.format.specs.Run.{Frame, code_of}

-- The frames, the top first: each record is below the bound n, each frame is where an instruction begins, and the records below are smaller.
abbrev pub Stack : Pattern → ℕ → List Frame → Type 0
Stack p n [] = Unit {0}
Stack p n (f ∷ fs) = (f.rec < n) × T (begins (code_of p f) f.at) × Stack p f.rec fs

-- an instruction of a record that passes
pub record Stands (c : List ℕ) (o : ℕ) : Type 0 where
  pub starts : T (begins c o)
  pub paired : T (not (stray c o))
  pub reads : T (readable c o)
  pub goes : T (follows c o)

-- a jump of a record that passes
pub record Jumps (c : List ℕ) (o : ℕ) : Type 0 where
  pub starts : T (begins c o)
  pub jump : T (has_target (flow (row_at c o)))
  pub paired : T (not (stray c o))
  pub reads : T (readable c o)
  pub goes : T (lands c o)
