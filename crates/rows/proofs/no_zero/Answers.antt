-- `rows::no_zero` meets its contract. Assumes nothing.
use mathlib.Core.Path.{ap, ◌∙◌}
use mathlib.Core.Bool.{not}
use Rattle.rows.proofs.Laws.{no_zero_in}
use Rattle.rows.proofs.no_zero.Goals as goal

pub returns : goal.returns
returns c = ap not c.contains.ensures.value ∙ no_zero_in c.args.f.now c.args.n c.args.at c.requires
