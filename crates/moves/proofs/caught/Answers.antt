-- `moves::caught` meets its contract.
-- Assumes nothing.
use mathlib.Core.Path.{ap, ◌∙◌}
use Rattle.format.specs.Run.{to}
use Rattle.moves.proofs.Moves.{caught_is, caught_on}
use Rattle.moves.proofs.caught.Goals as goal

pub returns-then-h-number : goal.returns-then-h-number
returns-then-h-number c = let a = c.args in ap to c.word-target.ensures.0 ∙ caught_is a.code.now a.handlers.now a.o a.first a.number a.h c.if-h-number.true

pub returns : goal.returns
returns c = let a = c.args in caught_on a.code.now a.handlers.now a.o a.first a.number a.h c.if-h-number.false c.go_on.ensures
