-- `examine::examine` meets its contract.
-- Assumes nothing.
use Rattle.tables.specs.Tables.{words_of}
use Rattle.rite.specs.Answers.{sizes, allowance_of}
use Rattle.examine.proofs.Cleared.{as_whole}
use Rattle.examine.proofs.examine.Goals as goal

pub returns-clause-loaded : goal.returns-clause-loaded
returns-clause-loaded c =
    let a = c.args in
    as_whole a.f.now (sizes (words_of a.t.now)) (allowance_of a.a) a.permitted.now c.load_passing.result (words_of c.load_passing.new.t) c.load_passing.ensures.loaded
