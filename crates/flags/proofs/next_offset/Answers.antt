-- `flags::next_offset` meets its contract.
-- Assumes nothing.
use Prim.Native.Nat.{ℕ, ◌+◌}
use mathlib.Core.Path.{◌≡◌}
use mathlib.Core.List.{List}
use Rattle.format.specs.Bytes.{byte}
use Rattle.format.specs.Insn.{next}
use Rattle.opcode.specs.Digits.{size_in, digits_of}
use Rattle.flags.specs.Flags.{Entire, size_behind}
use Rattle.flags.proofs.Tests.{prefix_here, behind_inside, behind_size, next_here, next_behind}
use Rattle.flags.proofs.next_offset.Goals as goal

pub bounds-code-i-then-n-eq0-2 : goal.bounds-code-i-then-n-eq0-2
bounds-code-i-then-n-eq0-2 c =
    behind_inside c.requires c.digits-n.ensures c.if-n-eq0.true

-- the next offset, behind a prefix
behind : {c : List ℕ} {i d k n : ℕ} → Entire c i → d ≡ digits_of (byte c i) → size_in d ≡ 0 → k ≡ digits_of (byte c (i + 1))
    → n ≡ size_behind (byte c i) k → i + n ≡ next c i
behind {c} {i} t e z g s = next_behind c i (behind_inside t e z) (prefix_here t e z) g (behind_size t e z g) s

pub returns-then-n-eq0 : goal.returns-then-n-eq0
returns-then-n-eq0 c = behind c.requires c.digits-n.ensures c.if-n-eq0.true c.digits.ensures c.size_behind.ensures.0

pub returns : goal.returns
returns c =
    next_here c.args.code.now c.args.i c.requires.inside c.digits-n.ensures c.if-n-eq0.false
