-- `debug::Entries::read_debug_record` meets its contract.
-- Assumes nothing.
use Rattle.std.proofs.Common.{◌≡◌, ◌-◌, ◌<◌}
use Rattle.debug.specs.Records.{state_of, walk_of}
use Rattle.debug.proofs.Entries.+read_debug_record.Given as goal

-- the records left
abbrev pub decreases-read_debug_record : goal.decreases-read_debug_record
decreases-read_debug_record l = l.self.now.count - l.walk.rec

-- some children are visited: the rest of the walk starts where the last of them ended, past the record
abbrev pub invariant-loop-child : goal.invariant-loop-child
invariant-loop-child l =
    (l.fn.walk.rec < l.then.rec)
    × (walk_of l.self.part.bytes.now l.self.names l.self.count 1 (state_of l.fn.walk l.fn.records l.fn.files l.fn.lines)
    ≡ walk_of l.self.part.bytes.now l.self.names l.self.count (l.rlen - l._child) (state_of l.then l.records l.files l.lines))
