-- `moves::jump_target` meets its contract.
-- Assumes nothing.
use Rattle.moves.proofs.Moves.{entire_jump, target_low, target_high, not_before}
use Rattle.moves.proofs.jump_target.Goals as goal

pub next_offset-next-requires : goal.next_offset-next-requires
next_offset-next-requires c = entire_jump c.requires

pub overflow_sub-result : goal.overflow_sub-result
overflow_sub-result c =
    not_before c.requires c.next_offset-next.ensures c.from.ensures c.from-2.ensures c.if-s-lt32768.false

pub returns-then-s-lt32768 : goal.returns-then-s-lt32768
returns-then-s-lt32768 c =
    target_low c.requires c.next_offset-next.ensures c.from.ensures c.from-2.ensures c.if-s-lt32768.true

pub returns-else-s-lt32768 : goal.returns-else-s-lt32768
returns-else-s-lt32768 c =
    target_high c.requires c.next_offset-next.ensures c.from.ensures c.from-2.ensures c.if-s-lt32768.false
