use Rattle.examine_list.proofs.Full.{Writing}
use Rattle.examine_list.proofs.write_full.Given as goal

abbrev pub invariant-loop-i : goal.invariant-loop-i
invariant-loop-i l = Writing l.list l.w l.i
