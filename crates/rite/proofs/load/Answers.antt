-- `rite::load` meets its contract.
-- Assumes nothing.
use Rattle.std.proofs.Common.{ap, ◌∙◌}
use Rattle.format.specs.Allowance.{Allowance}
use Rattle.format.specs.Load.{load, laid, loading_within}
use Rattle.tables.specs.Tables.{words_of}
use Rattle.rite.specs.Answers.{sizes}
use Rattle.rite.proofs.Whole.{granted_is}
use Rattle.rite.proofs.load.Goals as goal

pub returns-clause-loaded : goal.returns-clause-loaded
unfolding load
returns-clause-loaded c =
    let a = c.args in
    let m = sizes (words_of a.t.now) in
    rw (c.min.ensures, c.min-2.ensures) at c.load_within.ensures.loaded ∙ ap (λ (g : Allowance). laid m (loading_within 1024 g a.f.now m)) (granted_is a.a.bytes a.a.records)
