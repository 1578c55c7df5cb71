-- `examine_list::write_full` meets its contract.
-- Assumes nothing.
use native.Mathlib.Omega.{arith}
use Rattle.std.proofs.Common.{ℕ, length-take}
use Rattle.examine_list.proofs.Full.{writing_end}
use Rattle.examine_list.proofs.write_full.Goals as goal

pub returns : goal.returns
returns c =
    let n = length-take {A = ℕ} c.min-read.result c.args.list.now in
    writing_end (omega (arith, n, c.min-read.ensures)) (λ h. omega (arith, n, c.min-read.ensures)) c.loop-i.invariant
