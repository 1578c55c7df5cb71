-- The table of opcodes: it follows paper 01's sentences, and stands in the order of its numbers.
-- Each is one computed test.
-- Assumes nothing.
use Prim.Native.Nat.{ℕ, suc, ◌≤◌}
use mathlib.Core.Path.{◌≡◌, refl, ap}
use mathlib.Core.List.{List, [], ◌∷◌, map}
use lib.ListN.{length, get_or-eq_default}
use Rattle.format.specs.Insn.{Z, Row, op, NOP, on, width, number, name, kind, table, row, size}
use Rattle.format.specs.Rules.{by_rules}

-- the two renderings agree
pub as_paper : map by_rules table ≡ table
unfolding table
as_paper = refl

-- from n on, one more for each
abbrev counted : ℕ → List Row → List ℕ
counted n [] = []
counted n (r ∷ rs) = n ∷ counted (suc n) rs

-- row b is that of the opcode whose number is b, and there are 119
pub in_order : map (λ (r : Row). number (name r)) table ≡ counted 0 table
unfolding table
in_order = refl

pub opcodes : length table ≡ 119
unfolding table
opcodes = refl

-- a byte above 118 counts as one that stands alone
pub size_above : (b : ℕ) → 119 ≤ b → size b ≡ 1
unfolding row table
size_above b h = ap (λ (r : Row). suc (width (kind r))) (get_or-eq_default table (op NOP Z [] on) {n = b} h)
