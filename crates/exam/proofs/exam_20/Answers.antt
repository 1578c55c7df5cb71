-- `exam::exam_20` meets its contract.
-- Assumes nothing.
use Prim.Native.Nat.{◌+◌, ◌-◌}
use native.Mathlib.Omega.{arith}
use mathlib.Core.Path.{◌≡◌}
use Rattle.exam.proofs.Turns.{risen_turn, risen_bad, risen_end}
use Rattle.exam.proofs.exam_20.Goals as goal

-- j is behind the row before it
pub returns-then-lines-j : goal.returns-then-lines-j
returns-then-lines-j c =
    let e : c.loop-j.j - 1 + 1 ≡ c.loop-j.j = omega arith in
    risen_bad (omega arith) c.loop-j.invariant (rw e c.if-lines-j.true)

pub loop-j-preserved : goal.loop-j-preserved
loop-j-preserved c =
    let e : c.loop-j.j - 1 + 1 ≡ c.loop-j.j = omega arith in
    let k : c.loop-j.j + 1 - 1 ≡ c.loop-j.j - 1 + 1 = omega arith in
    rw k (risen_turn (omega arith) c.loop-j.invariant (rw e c.if-lines-j.false))

pub returns : goal.returns
returns c = risen_end (omega arith) c.loop-j.invariant
