-- `exam::examine_all` meets its contract.
-- Assumes nothing.
use Rattle.examine_list.specs.Full.{bytes_of}
use Rattle.exam.proofs.Join.{Passed}
use Rattle.exam.proofs.examine_all.Given as goal

abbrev pub invariant-loop-r : goal.invariant-loop-r
invariant-loop-r l = Passed (bytes_of l.permitted.answers) l.pattern.file.now l.pattern.records.now l.pattern.handlers.now l.pattern.lines.now l.from l.to l.r
