-- `flags::begins_at` meets its contract.
-- Assumes nothing.
use lib.ListN.{length}
use borrow.Author.Tests.{le-ltb}
use Rattle.flags.proofs.Goes.{begins_out}
use Rattle.flags.proofs.begins_at.Goals as goal

pub returns-else-t-code : goal.returns-else-t-code
returns-else-t-code c = rw (le-ltb c.args.t (length c.args.code.now) c.if-t-code.false) (begins_out c.args.code.now c.args.t c.if-t-code.false)
