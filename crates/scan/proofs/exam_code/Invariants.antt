-- `scan::exam_code` meets its contract.
-- Assumes nothing.
use Rattle.flags.specs.Flags.{bare}
use Rattle.scan.proofs.Going.{Going}
use Rattle.scan.proofs.exam_code.Given as goal

abbrev pub invariant-loop-i : goal.invariant-loop-i
invariant-loop-i l = Going (bare l.limits.by_role l.code) l.i
