-- `exam::examine_all` meets its contract.
-- Assumes nothing.
use borrow.Author.Rules.{rules}
use mathlib.Core.Path.{◌≡◌}
use Rattle.refusal.specs.Number.{number, refusal_of}
use Rattle.exam.proofs.Join.{number_some, passed_turn, passed_stop, passed_end}
use Rattle.exam.proofs.examine_all.Goals as goal

pub returns-in_err-examine_record : goal.returns-in_err-examine_record
returns-in_err-examine_record c =
    let e : refusal_of c.from_residual.result ≡ number c.in_err-examine_record.field-0.0 = search rules in
    rw e (passed_stop c.loop-r-test.true c.loop-r.invariant c.in_err-examine_record.ensures (number_some c.in_err-examine_record.field-0.0))

pub loop-r-preserved : goal.loop-r-preserved
loop-r-preserved c = passed_turn c.loop-r-test.true c.loop-r.invariant c.in_ok-examine_record.ensures

pub returns : goal.returns
returns c = passed_end c.loop-r-test.false c.loop-r.invariant
