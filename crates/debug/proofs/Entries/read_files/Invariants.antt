-- `debug::Entries::read_files` meets its contract: the files still to come, from here on, end as all of them do.
-- Assumes nothing.
use Rattle.std.proofs.Common.{◌≡◌, ◌-◌}
use Rattle.std.proofs.Math.Option.{none}
use Rattle.debug.specs.Records.{filed, filed_of, spot_of, files_of}
use Rattle.debug.proofs.Entries.read_files.Given as goal

abbrev pub invariant-loop-i : goal.invariant-loop-i
invariant-loop-i l =
    files_of l.self.part.bytes.now l.self.names (l.n - l._i) (filed_of l.file l.files l.lines)
    ≡ files_of l.self.part.bytes.now l.self.names l.n (filed none (spot_of l.fn.from l.fn.files l.fn.lines))
