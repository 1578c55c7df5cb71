-- `flags::flag_at` meets its contract.
-- Assumes nothing.
use Prim.Native.Nat.{ℕ}
use mathlib.Core.Path.{ap, ◌∙◌}
use lib.Dec.{ltb}
use lib.ListN.{length}
use borrow.Author.Rules.{rules}
use Rattle.flags.specs.Flags.{Limits}
use Rattle.flags.proofs.Roles.{numbered, bounded_alone, flag_told}
use Rattle.flags.proofs.flag_at.Goals as goal

pub operands_below-below-requires-clause-numbered : goal.operands_below-below-requires-clause-numbered
operands_below-below-requires-clause-numbered c = numbered c.requires.alone.looked

pub returns : goal.returns
returns c =
    let a = c.args in
    let limits : Limits a.limits.now.by_role = search rules in
    let alone = c.requires.alone in
    c.flag_of.ensures.0
    ∙ flag_told alone.looked a.limits.now.by_role (bounded_alone alone.looked limits alone.no_prefix c.operands_below-below.ensures)
    (ap (λ (x : ℕ). ltb x (length a.code.now)) alone.next_is)
