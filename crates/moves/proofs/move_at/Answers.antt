-- `moves::move_at` meets its contract.
-- Assumes nothing.
use Rattle.exam.specs.View.{targets}
use Rattle.moves.proofs.Moves.{by_on, by_jump, by_enter, by_leave}
use Rattle.moves.proofs.move_at.Goals as goal

pub returns-in-GoOn : goal.returns-in-GoOn
returns-in-GoOn c =
    let a = c.args in by_on a.code.now (targets a.handlers.now a.first a.number) a.o c.in-GoOn.is c.go_on.ensures

pub returns-in-Jump : goal.returns-in-Jump
returns-in-Jump c =
    let a = c.args in by_jump a.code.now (targets a.handlers.now a.first a.number) a.o c.in-Jump.is c.jump.ensures

pub returns-in-Enter : goal.returns-in-Enter
returns-in-Enter c =
    let a = c.args in by_enter a.code.now (targets a.handlers.now a.first a.number) a.o c.in-Enter.is c.enter.ensures

pub returns-in-Leave : goal.returns-in-Leave
returns-in-Leave c = let a = c.args in by_leave a.code.now (targets a.handlers.now a.first a.number) a.o c.in-Leave.is
