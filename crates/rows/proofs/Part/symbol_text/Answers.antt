-- `rows::Part::symbol_text` meets its contract: a string that was read lies in the part.
-- Assumes nothing.
use native.Mathlib.Omega.{arith}
use borrow.Author.Rules.{rules}
use Rattle.rows.proofs.Laws.{string_inside}
use Rattle.rows.proofs.Part.symbol_text.Goals as goal

pub overflow_add-at : goal.overflow_add-at
overflow_add-at c =
    let s = c.in_ok-span.span in
    let i = string_inside c.args.self.bytes.now c.args.self.base c.args.at s.place s.len s.next c.in_ok-span.ensures in
    search rules

pub no_zero-requires : goal.no_zero-requires
no_zero-requires c =
    let s = c.in_ok-span.span in omega (arith, string_inside c.args.self.bytes.now c.args.self.base c.args.at s.place s.len s.next c.in_ok-span.ensures)
