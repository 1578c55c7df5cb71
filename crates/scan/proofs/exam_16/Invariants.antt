-- `scan::exam_16` meets its contract.
-- Assumes nothing.
use Prim.Native.Nat.{◌-◌}
use lib.ListN.{length}
use Rattle.examine_list.specs.Full.{bytes_of}
use Rattle.scan.proofs.Marks.{Marking}
use Rattle.scan.proofs.exam_16.Given as goal

abbrev pub invariant-loop-i : goal.invariant-loop-i
invariant-loop-i l = Marking l.limits.by_role (bytes_of l.permitted.answers) l.code l.flags l.all l.i

abbrev pub decreases-loop-i : goal.decreases-loop-i
decreases-loop-i l = length l.code - l.i
