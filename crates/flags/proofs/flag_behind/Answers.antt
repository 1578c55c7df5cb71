-- `flags::flag_behind` meets its contract.
-- Assumes nothing.
use native.Mathlib.Omega.{arith}
use Prim.Native.Nat.{ℕ}
use mathlib.Core.Path.{ap, ◌∙◌}
use lib.Dec.{ltb}
use lib.ListN.{length}
use borrow.Author.Rules.{rules}
use Rattle.format.specs.Bytes.{byte}
use Rattle.format.proofs.Prefix.{first_one_or_two, second_one_or_two}
use Rattle.flags.specs.Flags.{Limits}
use Rattle.flags.proofs.Roles.{numbered, bounded_behind, flag_told}
use Rattle.flags.proofs.flag_behind.Goals as goal

pub operands_below-below-requires-clause-numbered : goal.operands_below-below-requires-clause-numbered
operands_below-below-requires-clause-numbered c = numbered c.requires.looked

pub operands_below-below-requires-clause-le_x : goal.operands_below-below-requires-clause-le_x
operands_below-below-requires-clause-le_x c =
    let p = byte c.args.code.now c.args.i in
    let x = first_one_or_two p c.first_width.ensures in
    let y = second_one_or_two p c.second_width.ensures in
    (x.0, x.1, y.0, y.1, omega (arith, c.requires.looked.inside))

pub returns : goal.returns
returns c =
    let a = c.args in
    let limits : Limits a.limits.now.by_role = search rules in
    let behind = c.requires in
    c.flag_of.ensures.0
    ∙ flag_told behind.looked a.limits.now.by_role
    (bounded_behind behind.looked limits behind.prefixed c.first_width.ensures c.second_width.ensures c.operands_below-below.ensures)
    (ap (λ (x : ℕ). ltb x (length a.code.now)) behind.next_is)
