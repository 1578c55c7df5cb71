-- `moves::caught_at` meets its contract.
-- Assumes nothing.
use mathlib.Core.Path.{refl}
use Rattle.moves.proofs.Choices.{caught_bad, caught_next}
use Rattle.moves.proofs.caught_at.Goals as goal

pub returns-then-choices-i-lt3 : goal.returns-then-choices-i-lt3
returns-then-choices-i-lt3 c = let a = c.args in (caught_bad a.choices.now a.i c.requires.0 c.if-choices-i-lt3.true c.requires.1, refl)

pub returns : goal.returns
returns c =
    let a = c.args in caught_next a.choices.now a.i c.requires.0 c.if-choices-i-lt3.false c.requires.1 _ _ c.from.ensures c.from-2.ensures
