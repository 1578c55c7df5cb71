-- `run::line_of` meets its contract.
-- Assumes nothing.
use Rattle.run.proofs.View.{line_is}
use Rattle.run.proofs.line_of.Goals as goal

pub returns : goal.returns
returns c =
    let a = c.args in line_is a.records.now a.lines.now a.r a.o c.requires.r_in_bounds c.word-first.ensures.0 c.word.ensures.0 c.line_at.ensures
