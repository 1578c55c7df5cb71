-- Two lists that permit the same opcodes examine alike.
-- Assumes nothing.
use Prim.Native.Nat.{ℕ}
use mathlib.Core.Path.{◌≡◌, refl, ap, ap₂, fun_ext}
use mathlib.Core.List.{List, [], ◌∷◌}
use Rattle.format.specs.Bytes.{byte, refuse, first}
use Rattle.format.specs.Insn.{opcode}
use Rattle.format.specs.Permitted.{permits, permitted_at}
use Rattle.format.specs.Pattern.{Record, Pattern}
use Rattle.format.specs.Exam.{first_at, exam32, examine_record, examine_all, examine_pattern}

module _ (q l : List ℕ) (h : (b : ℕ) → permits q b ≡ permits l b) where
  pub same_permitted : (c : List ℕ) (o : ℕ) → permitted_at q c o ≡ permitted_at l c o
  unfolding permitted_at
  same_permitted c o = rw (h (byte c o), h (opcode c o))

  pub same_exam32 : (c : List ℕ) → exam32 q c ≡ exam32 l c
  unfolding exam32
  same_exam32 c = ap (λ (f : ℕ → ℕ). first_at f c 0 0) (fun_ext (λ o. ap (refuse 32) (same_permitted c o)))

  pub same_record : (r : Record) → examine_record q r ≡ examine_record l r
  unfolding examine_record
  same_record r = rw (same_exam32 r.code)

  pub same_permits : (p : List Record) → examine_all q p ≡ examine_all l p
  unfolding examine_all
  same_permits [] = refl
  same_permits (r ∷ rs) = ap₂ first (same_record r) (same_permits rs)

  pub same_pattern : (p : Pattern) → examine_pattern q p ≡ examine_pattern l p
  unfolding examine_pattern
  same_pattern p = rw (same_permits p)
