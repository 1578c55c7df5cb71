-- `examine_asked::examine_single` meets its contract.
-- Assumes nothing.
use native.Mathlib.Omega.{arith}
use mathlib.Core.Path.{refl, ◌∙◌}
use Rattle.examine_asked.proofs.Single.{missing, single_is}
use Rattle.examine_asked.proofs.examine_single.Goals as goal

pub returns-then-next-pattern : goal.returns-then-next-pattern
returns-then-next-pattern c =
    let a = c.args in
    missing a.pattern.now.file.now a.pattern.now.records.now a.pattern.now.handlers.now a.pattern.now.lines.now a.pattern.now.n a.permitted.now a.rec (omega (arith, c.if-next-pattern.true))

pub returns : goal.returns
returns c =
    let a = c.args in
    c.examine_records.ensures
    ∙ single_is a.pattern.now.file.now a.pattern.now.records.now a.pattern.now.handlers.now a.pattern.now.lines.now a.pattern.now.n a.permitted.now a.rec a.rec refl
    (omega (arith, c.if-next-pattern.false))
