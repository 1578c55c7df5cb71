-- `lvar::Entries::read_lv_records` meets its contract.
-- Assumes nothing.
use Rattle.std.proofs.Common.{◌≡◌, ◌-◌, ◌<◌}
use Rattle.lvar.specs.Names.{state_of, lv_walk}
use Rattle.lvar.proofs.Entries.+read_lv_records.Given as goal

-- the records left
abbrev pub decreases-read_lv_records : goal.decreases-read_lv_records
decreases-read_lv_records l = l.self.now.count - l.walk.rec

-- some children are visited: the rest of the walk starts where the last of them ended, past the record
abbrev pub invariant-loop-child : goal.invariant-loop-child
invariant-loop-child l =
    (l.fn.walk.rec < l.then.rec)
    × (lv_walk l.self.part.bytes.now l.self.part.base l.self.strings l.self.count 1 (state_of l.fn.walk l.fn.records l.fn.names)
    ≡ lv_walk l.self.part.bytes.now l.self.part.base l.self.strings l.self.count (l.rlen - l._child) (state_of l.then l.records l.names))
