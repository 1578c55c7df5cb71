-- `moves::child_at` meets its contract.
-- Assumes nothing.
use native.Mathlib.Omega.{arith}
use mathlib.Core.Path.{◌≡◌, ◌∙◌}
use Rattle.moves.proofs.Children.{seeking_start, seeking_turn, seeking_none, seeking_end}
use Rattle.moves.proofs.child_at.Goals as goal

pub loop-i-init : goal.loop-i-init
loop-i-init c = seeking_start c.requires.2 c.requires.3

pub returns-then-trees-eq0 : goal.returns-then-trees-eq0
returns-then-trees-eq0 c = seeking_none c.loop-i.i c.loop-i.trees c.if-trees-eq0.true c.loop-i.invariant

pub loop-i-preserved : goal.loop-i-preserved
loop-i-preserved c =
    seeking_turn c.loop-i.i c.loop-i.trees _ c.loop-i-test.true c.if-trees-eq0.false c.word-rlen.ensures.0 c.word-rlen.ensures.1 c.loop-i.invariant

pub returns : goal.returns
returns c =
    let e : c.args.n ≡ c.loop-i.i = omega arith in e ∙ seeking_end c.loop-i.i c.loop-i.trees c.loop-i-test.false c.loop-i.invariant
