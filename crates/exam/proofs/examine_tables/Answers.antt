-- `exam::examine_tables` meets its contract.
-- Assumes nothing.
use mathlib.Core.Path.{sym, ◌∙◌}
use Rattle.exam.proofs.Join.{tree_bad, tree_good}
use Rattle.exam.proofs.examine_tables.Goals as goal

pub returns-then-not-whole_tree : goal.returns-then-not-whole_tree
returns-then-not-whole_tree c =
    let a = c.args in
    tree_bad a.pattern.now.file.now a.pattern.now.records.now a.pattern.now.handlers.now a.pattern.now.lines.now a.pattern.now.n a.permitted.now (sym c.whole_tree.ensures ∙ c.if-not-whole_tree.true)

pub returns : goal.returns
returns c =
    let a = c.args in
    c.examine_records.ensures
    ∙ tree_good a.pattern.now.file.now a.pattern.now.records.now a.pattern.now.handlers.now a.pattern.now.lines.now a.pattern.now.n a.permitted.now
    (sym c.whole_tree.ensures ∙ c.if-not-whole_tree.false)
