-- `irep::read_records` meets its contract.
-- Assumes nothing.
use Prim.Native.Nat.{◌-◌}
use native.Mathlib.Omega.{arith}
use mathlib.Core.Path.{◌∙◌}
use borrow.Author.Rules.{rules}
use lib.ListN.{length}
use Rattle.irep.specs.Record.{lent}
use Rattle.irep.proofs.Laws.{records_done, record_next, records_go, records_no}
use Rattle.refusal.specs.Number.{number}
use Rattle.irep.proofs.read_records.Goals as goal

pub loop-reached-init : goal.loop-reached-init
loop-reached-init c = (length c.args.part.bytes.now, omega arith, let d = c.default.ensures in search rules)

pub loop-reached-smaller : goal.loop-reached-smaller
loop-reached-smaller c =
    let a = c.args in let r = c.read_record.new in let l = c.loop-reached in let n = c.in_ok-reached in
    let p = record_next a.part.bytes.now a.part.base a.limit l.reached.at (lent l.records l.handlers l.pool l.symbols) l.reached.used n.reached
    (lent r.records r.handlers r.pool r.symbols) n.ensures in
    omega (arith, p, c.loop-reached-test.true)

pub loop-reached-preserved : goal.loop-reached-preserved
loop-reached-preserved c =
    let a = c.args in let r = c.read_record in let l = c.loop-reached in let n = c.in_ok-reached in
    let t = lent l.records l.handlers l.pool l.symbols in let t' = lent r.new.records r.new.handlers r.new.pool r.new.symbols in
    let p = record_next a.part.bytes.now a.part.base a.limit l.reached.at t l.reached.used n.reached t' n.ensures in
    let q = records_go a.part.bytes.now a.part.base a.size a.limit l.reached.at t l.reached.used l.invariant.0 l.invariant.1 c.loop-reached-test.true t' n.reached n.ensures in
    (l.invariant.0 - 1, omega (arith, p, l.invariant.1, c.loop-reached-test.true), q ∙ l.invariant.2)

pub returns-in_err-reached : goal.returns-in_err-reached
returns-in_err-reached c =
    let a = c.args in let r = c.read_record.new in let l = c.loop-reached in
    let e =
    records_no a.part.bytes.now a.part.base a.size a.limit l.reached.at (lent l.records l.handlers l.pool l.symbols) l.reached.used l.invariant.0 l.invariant.1 c.loop-reached-test.true
    (lent r.records r.handlers r.pool r.symbols) (number c.in_err-reached.field-0.0) c.in_err-reached.ensures
    ∙ l.invariant.2 in
    search rules

pub returns : goal.returns
returns c =
    let l = c.loop-reached in let a = c.args in
    records_done a.part.bytes.now a.part.base a.size a.limit l.reached.at (lent l.records l.handlers l.pool l.symbols) l.reached.used l.invariant.0 c.loop-reached-test.false ∙ l.invariant.2
