-- `examine_asked::examine_asked` meets its contract.
-- Assumes nothing.
use native.Mathlib.Omega.{arith}
use borrow.Author.Tests.{le-leb, lt-leb}
use Rattle.examine_asked.proofs.Single.{pattern_length}
use Rattle.examine_asked.proofs.examine_asked.Goals as goal

pub returns-then-rows-pattern : goal.returns-then-rows-pattern
returns-then-rows-pattern c =
    let t = c.args.pattern.now in
    let rows = c.in-Whole.rows in
    rw (c.in-Whole.is, pattern_length t.file.now t.records.now t.handlers.now t.lines.now t.n, lt-leb t.n rows (omega (arith, c.if-rows-pattern.true)))

pub returns-else-rows-pattern : goal.returns-else-rows-pattern
returns-else-rows-pattern c =
    let t = c.args.pattern.now in
    let rows = c.in-Whole.rows in
    rw (c.in-Whole.is, pattern_length t.file.now t.records.now t.handlers.now t.lines.now t.n, le-leb t.n rows (omega (arith, c.if-rows-pattern.false)))
    c.examine_tables.ensures
