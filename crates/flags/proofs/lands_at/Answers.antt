-- `flags::lands_at` meets its contract.
-- Assumes nothing.
use mathlib.Core.Path.{◌∙◌}
use Rattle.flags.proofs.Goes.{lands_before, lands_there}
use Rattle.flags.proofs.lands_at.Goals as goal

pub returns-then-j-lt65536 : goal.returns-then-j-lt65536
returns-then-j-lt65536 c =
    lands_before c.args.code.now c.requires.le_next.0 c.from.ensures c.from-2.ensures c.signed.ensures.0 c.if-j-lt65536.true

pub returns : goal.returns
returns c =
    c.begins_at.ensures ∙ lands_there c.args.code.now c.requires.le_next.0 c.from.ensures c.from-2.ensures c.signed.ensures.0 c.if-j-lt65536.false
