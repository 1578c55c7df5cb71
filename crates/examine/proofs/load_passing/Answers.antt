-- `examine::load_passing` meets its contract.
-- Assumes nothing.
use mathlib.Core.Path.{ap, ◌∙◌}
use borrow.Author.Rules.{rules}
use Rattle.format.specs.File.{nothing}
use Rattle.format.specs.Load as format
use Rattle.tables.specs.Tables.{words_of}
use Rattle.rite.specs.Answers.{sizes, allowance_of}
use Rattle.rite.proofs.Whole.{zero_words, same_sizes}
use Rattle.examine.proofs.Cleared.{went, met_cleared, stopped}
use Rattle.examine.proofs.load_passing.Goals as goal

pub returns-in-Ok-clause-loaded : goal.returns-in-Ok-clause-loaded
returns-in-Ok-clause-loaded c =
    let a = c.args in
    went a.asked a.f.now (sizes (words_of a.t.now)) (allowance_of a.a) a.permitted.now (words_of c.examine_kept.new.t) c.in-Ok.u c.in-Ok.ensures.kept

pub returns-in-Err-Load-clause-loaded : goal.returns-in-Err-Load-clause-loaded
returns-in-Err-Load-clause-loaded c =
    let a = c.args in
    search (rules, stopped a.asked a.f.now (sizes (words_of a.t.now)) (allowance_of a.a) a.permitted.now (words_of c.examine_kept.new.t))

pub returns-in-Err-Examination-clause-loaded : goal.returns-in-Err-Examination-clause-loaded
returns-in-Err-Examination-clause-loaded c =
    let a = c.args in
    let m = sizes (words_of a.t.now) in
    let w = words_of c.examine_kept.new.t in
    let z = words_of c.clear.new.self in
    let cleared = zero_words w z c.clear.ensures.zeros ∙ ap (λ x. format.words_of x (format.tables_of nothing)) (same_sizes _ _ c.examine_kept.ensures.same.lengths) in
    rw cleared (search (rules, met_cleared a.asked a.f.now m (allowance_of a.a) a.permitted.now w))
