-- `scan::with_alone` meets its contract.
-- Assumes nothing.
use Rattle.examine_list.specs.Full.{bytes_of}
use Rattle.scan.proofs.Listed.{alone_too}
use Rattle.scan.proofs.with_alone.Goals as goal

pub returns : goal.returns
returns c =
    let a = c.args in alone_too (bytes_of a.permitted.now.answers) a.code.now a.i a.all c.permits.ensures c.requires.alone.1
