-- A worked pattern of two records: what follow asks of its caller can be met, and runs of it, computed.
-- Assumes nothing.
use Prim.Native.Nat.{ℕ, zero, suc, ◌<◌}
use native.Mathlib.Omega.{arith}
use mathlib.Core.Path.{◌≡◌, refl}
use mathlib.Core.Option.{none, some}
use mathlib.Core.List.{List, [], ◌∷◌, ◌++◌}
use lib.ListN.{replicate}
use Rattle.format.specs.Bytes.{ok, refused}
use Rattle.format.specs.Insn.{table, row, operands, opcode, rest}
use Rattle.format.specs.Registers.{comments, form}
use Rattle.format.specs.Line.{rows_from, halve, line_at, rising}
use Rattle.format.specs.Tree.{layout, span, child_of, no_parent}
use Rattle.format.specs.Pattern.{Pattern, reach}
use Rattle.format.specs.Permitted.{permits, permitted_at, everything}
use Rattle.format.specs.Exam.{stray, readable, below, all_below, operands_below, range_below, bounded, follows, first_at, first_of, exam16, exam32, exam1718, exam19, exam20}
use Rattle.format.specs.Exam.{examine_record, examine_all, examine_pattern}
use Rattle.format.specs.Run.{frame, child_operand, move, one_step, run_from, choices_from, finished, stands, standing, laid_frames, frame_table}
use Rattle.exam.specs.View.{pattern_at, RowFits, Ready}
use Rattle.run.specs.Follow.{out, follow_out}

-- LAMBDA 1 0 and RETURN 1, with a handler at 3 and line 7 from 0 on; its child is RETURN 1
abbrev bytes : List ℕ
bytes = 97 ∷ 1 ∷ 0 ∷ 61 ∷ 1 ∷ 61 ∷ 1 ∷ []

abbrev record_0 : List ℕ
record_0 = 24 ∷ 1 ∷ 2 ∷ 1 ∷ 1 ∷ 5 ∷ 0 ∷ 0 ∷ 1 ∷ (replicate 9 0 ++ 1 ∷ 0 ∷ no_parent ∷ [])

abbrev record_1 : List ℕ
record_1 = 24 ∷ 1 ∷ 2 ∷ 0 ∷ 0 ∷ 2 ∷ 5 ∷ (replicate 12 0 ++ 1 ∷ 0 ∷ [])

abbrev records : List ℕ
records = record_0 ++ record_1

abbrev handlers : List ℕ
handlers = 0 ∷ 0 ∷ 3 ∷ 3 ∷ []

abbrev lines : List ℕ
lines = 0 ∷ 7 ∷ []

pub ready : Ready bytes records handlers lines 2
unfolding table row rows_from opcode operands rest reach layout stray readable operands_below range_below bounded comments form follows below all_below first_at first_of
    permits permitted_at exam16 exam32 exam1718 exam19 exam20 rising examine_record examine_all examine_pattern
ready = record { fits = record { few = omega arith; held = omega arith; small = omega arith; each = one }; list = everything; passes = refl }
  where
    one : (r : ℕ) → r < 2 → RowFits bytes records handlers lines r
    one zero h = record { inside = omega arith; bytes = omega arith; handling = omega arith; lined = omega arith }
    one (suc zero) h = record { inside = omega arith; bytes = omega arith; handling = omega arith; lined = omega arith }
    one (suc (suc r)) h = absurd (omega arith)

abbrev pattern : Pattern
pattern = pattern_at bytes records handlers lines 2

-- no choice; enter; caught; enter and leave; go on twice; a cut body
pub runs : (follow_out pattern [] 4 ≡ out (ok (stands (frame 0 0) (some 7) 1)) (0 ∷ 0 ∷ 0 ∷ 0 ∷ []))
    × (follow_out pattern (2 ∷ []) 4 ≡ out (ok (stands (frame 1 0) none 2)) (0 ∷ 3 ∷ 1 ∷ 0 ∷ []))
    × (follow_out pattern (3 ∷ 0 ∷ 0 ∷ []) 4 ≡ out (ok (stands (frame 0 3) (some 7) 1)) (0 ∷ 3 ∷ 0 ∷ 0 ∷ []))
    × (follow_out pattern (2 ∷ 4 ∷ []) 4 ≡ out (ok (stands (frame 0 3) (some 7) 1)) (0 ∷ 3 ∷ 0 ∷ 0 ∷ []))
    × (follow_out pattern (0 ∷ 0 ∷ []) 4 ≡ out (ok finished) (0 ∷ 0 ∷ 0 ∷ 0 ∷ []))
    × (follow_out pattern (2 ∷ 3 ∷ 0 ∷ []) 4 ≡ out (refused 21) (0 ∷ 0 ∷ 0 ∷ 0 ∷ []))
unfolding table row rows_from opcode operands rest follow_out frame_table laid_frames choices_from run_from one_step move child_operand child_of span standing line_at halve
runs = (refl, refl, refl, refl, refl, refl)
