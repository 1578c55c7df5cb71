-- `irep::read_records` meets its contract: the records still to come, from here on, end as all of them do.
-- Assumes nothing.
use Prim.Native.Nat.{ℕ, ◌-◌, ◌≤◌}
use mathlib.Core.Path.{◌≡◌}
use lib.ListN.{length}
use Rattle.irep.specs.Record.{unused, lent, records_of}
use Rattle.irep.proofs.read_records.Given as goal

abbrev pub invariant-loop-reached : goal.invariant-loop-reached
invariant-loop-reached l = (k : ℕ) × (l.size - l.reached.at ≤ k) × (
    records_of l.part.bytes.now l.part.base l.size l.limit k l.reached.at (lent l.records l.handlers l.pool l.symbols) l.reached.used
    ≡ records_of l.part.bytes.now l.part.base l.size l.limit (length l.part.bytes.now) 12 (lent l.initial.records l.initial.handlers l.initial.pool l.initial.symbols) unused)

abbrev pub decreases-loop-reached : goal.decreases-loop-reached
decreases-loop-reached l = l.size - l.reached.at
