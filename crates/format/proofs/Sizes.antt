-- The two renderings of sizes agree: one computed test over the table of opcodes.
-- Assumes nothing.
use Prim.Native.Nat.{ℕ, zero, suc, ◌+◌, ◌-◌, ◌≤◌}
use native.Mathlib.Omega.{arith}
use mathlib.Core.Path.{◌≡◌, refl}
use mathlib.Core.Bool.{Bool, ◌&&◌, cond}
use mathlib.Core.List.{List, [], ◌∷◌, map}
use lib.Dec.{T, eqb, eqb→eq, leb→le}
use Rattle.format.specs.Insn.{Kind, Z, BB, B, BS, BSS, BBB, S, W, NOP, MOVE, LOADI__1, LOADI16, LOADI32, GETUPVAR, JMP, ENTER, number}
use Rattle.format.specs.Insn.{Row, kind, table, row, total, width, prefix, lead, fields_from, size}
use Rattle.format.specs.Sizes.{kind_number, size_of, size_behind, widenings}
use Rattle.format.proofs.Table.{both, by_test}

-- how many rows stand before the first of kind k
abbrev before : Kind → List Row → ℕ
before k [] = 0
before k (r ∷ rs) = cond (eqb (kind_number (kind r)) (kind_number k)) 0 (suc (before k rs))

-- "in that file's order": the opcode that is the first of each kind
pub kinds_in_order : map (λ (k : Kind). before k table) (Z ∷ BB ∷ B ∷ BS ∷ BSS ∷ BBB ∷ S ∷ W ∷ [])
    ≡ map number (NOP ∷ MOVE ∷ LOADI__1 ∷ LOADI16 ∷ LOADI32 ∷ GETUPVAR ∷ JMP ∷ ENTER ∷ [])
unfolding table
kinds_in_order = refl

-- the bytes of an instruction of kind k that begins with the prefix p
abbrev pub bytes_behind : ℕ → Kind → ℕ
bytes_behind p k = suc (lead p + total (fields_from p k))

-- the test of a row: by itself, and behind each prefix
test : Row → Bool
test r =
    eqb (suc (width (kind r))) (size_of (kind r))
    && eqb (bytes_behind 115 (kind r)) (size_behind 115 (kind r))
    && eqb (bytes_behind 116 (kind r)) (size_behind 116 (kind r))
    && eqb (bytes_behind 117 (kind r)) (size_behind 117 (kind r))

passed : (b : ℕ) → T (test (row b))
unfolding test table row widenings
passed b = by_test test tt b

-- what holds at 115, 116 and 117 holds at each prefix
at_prefix : (P : ℕ → Type 0) → P 115 → P 116 → P 117 → (p : ℕ) → T (prefix p) → P p
at_prefix P x y z p t = go (p - 115) (omega (arith, low)) (omega (arith, high))
  where
    low : 115 ≤ p
    low = leb→le 115 p (search both)

    high : p ≤ 117
    high = leb→le p 117 (search both)

    go : (d : ℕ) → p ≡ 115 + d → d ≤ 2 → P p
    go zero e l = rw e x
    go (suc zero) e l = rw e y
    go (suc (suc zero)) e l = rw e z
    go (suc (suc (suc d))) e l = absurd (omega arith)

module _ (b : ℕ) where
  pub size_alone : size b ≡ size_of (kind (row b))
  unfolding test
  size_alone = let t = passed b in eqb→eq _ _ (search both)

  pub size_behind_lem : (p : ℕ) → T (prefix p) → bytes_behind p (kind (row b)) ≡ size_behind p (kind (row b))
  unfolding test
  size_behind_lem =
      let t = passed b in
      at_prefix (λ (p : ℕ). bytes_behind p (kind (row b)) ≡ size_behind p (kind (row b))) (eqb→eq _ _ (search both)) (eqb→eq _ _ (search both))
      (eqb→eq _ _ (search both))
