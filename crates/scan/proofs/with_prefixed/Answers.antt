-- `scan::with_prefixed` meets its contract.
-- Assumes nothing.
use Rattle.examine_list.specs.Full.{bytes_of}
use Rattle.scan.proofs.Listed.{prefixed_too}
use Rattle.scan.proofs.with_prefixed.Goals as goal

pub returns : goal.returns
returns c =
    let a = c.args in
    prefixed_too (bytes_of a.permitted.now.answers) a.code.now a.i a.all c.permits.ensures c.requires.prefixed.1 c.permits-2.ensures
