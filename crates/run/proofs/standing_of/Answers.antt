-- `run::standing_of` meets its contract.
-- Assumes nothing.
use mathlib.Core.Path.{refl, sym}
use Rattle.run.proofs.Steps.{row_fits, standing_none, standing_top}
use Rattle.exam.specs.Loaded.{pattern_of}
use Rattle.run.proofs.standing_of.Goals as goal

pub returns-then-d-eq0 : goal.returns-then-d-eq0
returns-then-d-eq0 c =
    let a = c.args in standing_none (pattern_of a.pattern.now) a.frames.now a.d c.if-d-eq0.true

pub line_of-line-requires : goal.line_of-line-requires
line_of-line-requires c =
    let q = row_fits c.requires.ready c.requires.n_in_bounds c.requires.held c.if-d-eq0.false c.word.ensures.0 refl in
    record { record_width_in_bounds = q.inside; r_in_bounds = q.lined }

pub returns : goal.returns
returns c =
    standing_top c.requires.ready c.requires.n_in_bounds c.requires.held c.if-d-eq0.false c.word.ensures.0 refl (sym c.word.ensures.0) c.line_of-line.ensures
