-- `exam::examine_records` meets its contract.
-- Assumes nothing.
use mathlib.Core.Path.{◌∙◌}
use Rattle.examine_list.proofs.Full.{blank, written_told}
use Rattle.exam.proofs.Join.{full_same}
use Rattle.exam.proofs.examine_records.Goals as goal

pub write_full-requires : goal.write_full-requires
write_full-requires c = blank

pub invariant_of-full : goal.invariant_of-full
invariant_of-full c = record { told = written_told c.write_full.ensures }

pub returns-then-pattern-le4096 : goal.returns-then-pattern-le4096
returns-then-pattern-le4096 c = c.examine_all.ensures ∙ full_same _ c.write_full.ensures

pub invariant_of-full-2 : goal.invariant_of-full-2
invariant_of-full-2 c = record { told = written_told c.write_full.ensures }

pub returns : goal.returns
returns c = c.examine_all-2.ensures ∙ full_same _ c.write_full.ensures
