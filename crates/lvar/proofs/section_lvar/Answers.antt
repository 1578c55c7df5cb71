-- `lvar::section_lvar` meets its contract: the walk ends at most behind the last record.
-- Assumes nothing.
use Rattle.std.proofs.Common.{arith}
use Rattle.lvar.specs.Names.{state, state_of}
use Rattle.lvar.proofs.Laws.{lv_inside}
use Rattle.lvar.proofs.section_lvar.Goals as goal

pub visits-requires : goal.visits-requires
visits-requires c =
    let a = c.args in let call = c.read_lv_records in
    let inside =
    lv_inside a.part.bytes.now a.part.base c.in_ok-n.n a.count 1 (state c.in_ok-texts.texts.at 0 0 a.records.now a.names.now)
    (state_of c.in_ok-walk.walk call.new.records call.new.names) (omega arith) c.in_ok-walk.ensures in
    omega (arith, inside, call.auto.records, c.requires)
