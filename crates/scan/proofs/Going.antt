-- The loop that reads 17 and 18 off the flags, turn by turn.
-- Assumes nothing.
use Prim.Native.Nat.{ℕ, zero, suc, ◌+◌, ◌-◌, ◌≤◌, ◌<◌}
use native.Mathlib.Nat.{zero-add}
use native.Mathlib.Omega.{arith}
use mathlib.Core.Path.{◌≡◌, refl, sym, subst, ◌∙◌}
use mathlib.Core.Bool.{Bool, true, false}
use mathlib.Core.List.{List}
use lib.Dec.{T, ltb}
use lib.ListN.{length, get_or, drop}
use Rattle.format.specs.Bytes.{byte, refuse, first}
use Rattle.format.specs.Insn.{rest, next}
use Rattle.format.specs.Pattern.{Record, begins}
use Rattle.format.specs.Exam.{first_at, at16, at1718, exam16, exam32, exam1718}
use Rattle.format.proofs.Answers.{first_zero}
use Rattle.runs.proofs.Tests.{first_at_zero}
use Rattle.flags.specs.Flags.{Entire, bare, flag_at, judged, Flagged, lands_from}
use Rattle.flags.proofs.Tests.{entire_whole}
use Rattle.flags.proofs.Goes.{flags_mark, flag_wide, judged_is}
use Rattle.scan.specs.Scan.{Marks, Coded}
use Rattle.scan.proofs.Places.{Place, place_start, place_zero, place_more, place_first, place_next, first_at_first, first_at_next, first_at_past}

passed_16 : (c : List ℕ) → exam16 c ≡ 0 → (o : ℕ) → T (begins c o) → at16 c o ≡ 0
unfolding exam16
passed_16 c e o t =
    let d = first_zero (refuse 16 (ltb 0 (length c))) _ e in
    rw zero-add at (first_at_zero (at16 c) c 0 0 d.1 o t)

-- 17 and 18, at the place i
pub record Going (R : Record) (i : ℕ) : Type 0 where
  pub left : ℕ
  pub place : Place R.code i left
  pub so : exam1718 R ≡ first_at (at1718 R) (drop i R.code) left i

module _ {R : Record} where
  pub going_start : Going R 0
  unfolding exam1718
  going_start = record { left = 0; place = place_start; so = refl }

  module _ {i : ℕ} (h : i < length R.code) (g : Going R i) where
    module _ (b : begins R.code i ≡ true) where
      turned : exam1718 R ≡ first (at1718 R i) (first_at (at1718 R) (drop (i + 1) R.code) (rest (byte R.code i) (drop (suc i) R.code)) (i + 1))
      turned = g.so ∙ first_at_first (at1718 R) R.code i g.left h (place_zero h g.place b)

      going_stop : {n : ℕ} → at1718 R i ≡ suc n → exam1718 R ≡ suc n
      going_stop e = turned ∙ rw e

      going_pass : at1718 R i ≡ 0 → Going R (i + 1)
      going_pass e = record {
        left = rest (byte R.code i) (drop (suc i) R.code);
        place = place_first h g.place (place_zero h g.place b);
        so = turned ∙ rw e;
      }

    going_next : begins R.code i ≡ false → Going R (i + 1)
    going_next b =
        let z = place_more h g.place b in
        record { left = g.left - 1; place = place_next h g.place z; so = g.so ∙ first_at_next (at1718 R) R.code i g.left h z }

  pub going_end : {i : ℕ} → length R.code ≤ i → Going R i → exam1718 R ≡ 0
  going_end {i} h g = g.so ∙ first_at_past (at1718 R) R.code i g.left h

judged_low : (v : ℕ) (t : Bool) → v < 2 → judged v t ≡ 0
unfolding judged
judged_low zero t h = refl
judged_low (suc zero) t h = refl
judged_low (suc (suc v)) t h = absurd (omega arith)

judged_high : (v : ℕ) (t : Bool) → 3 < v → judged v t ≡ 18
unfolding judged
judged_high zero t h = absurd (omega arith)
judged_high (suc zero) t h = absurd (omega arith)
judged_high (suc (suc zero)) t h = absurd (omega arith)
judged_high (suc (suc (suc zero))) t h = absurd (omega arith)
judged_high (suc (suc (suc (suc v)))) t h = refl

-- by the flag
module _ {l c flags : List ℕ} (f : Flagged l c flags) {i : ℕ} (h : i < length c) where
  begun : 0 < get_or flags i 0 → begins c i ≡ true
  begun p = go (begins c i) refl
    where
      go : (b : Bool) → begins c i ≡ b → b ≡ true
      go true e = refl
      go false e = let z : get_or flags i 0 ≡ 0 = f.told i h ∙ rw e in absurd (omega arith)

  flag_is : begins c i ≡ true → get_or flags i 0 ≡ flag_at (bare l c) i
  flag_is b = f.told i h ∙ rw b

  answer_is : begins c i ≡ true → at1718 (bare l c) i ≡ judged (get_or flags i 0) (lands_from c (next c i))
  answer_is b = judged_is (bare l c) i b ∙ rw (← flag_is b)

  -- a jump
  module _ (e : exam16 c ≡ 0) (p : 0 < get_or flags i 0) where
    pub jump_entire : Entire c i
    jump_entire = record { inside = h; none = passed_16 c e i (subst T (sym (begun p)) tt) }

    pub jump_inside : next c i ≤ length c
    jump_inside = entire_whole jump_entire

    pub jump_behind : get_or flags i 0 ≡ 3 → i + 3 ≤ next c i
    jump_behind q = flag_wide (bare l c) i (sym (flag_is (begun p)) ∙ q)

  module _ (g : Going (bare l c) i) where
    pub going_skip : get_or flags i 0 < 2 → Going (bare l c) (i + 1)
    going_skip k = go (begins c i) refl
      where
        go : (b : Bool) → begins c i ≡ b → Going (bare l c) (i + 1)
        go true e = going_pass h g e (answer_is e ∙ judged_low (get_or flags i 0) (lands_from c (next c i)) k)
        go false e = going_next h g e

    pub going_17 : get_or flags i 0 ≡ 2 → exam1718 (bare l c) ≡ 17
    unfolding judged
    going_17 q = let b = begun (omega arith) in going_stop h g b (answer_is b ∙ rw q)

    pub going_18 : 3 < get_or flags i 0 → exam1718 (bare l c) ≡ 18
    going_18 k = let b = begun (omega arith) in going_stop h g b (answer_is b ∙ judged_high (get_or flags i 0) (lands_from c (next c i)) k)

    module _ (q : get_or flags i 0 ≡ 3) {t : Bool} (j : t ≡ lands_from c (next c i)) where
      pub going_off : t ≡ false → exam1718 (bare l c) ≡ 18
      unfolding judged
      going_off z = let b = begun (omega arith) in going_stop h g b (answer_is b ∙ rw (q, ← j, z))

      pub going_land : t ≡ true → Going (bare l c) (i + 1)
      unfolding judged
      going_land z = let b = begun (omega arith) in going_pass h g b (answer_is b ∙ rw (q, ← j, z))

-- 16, 25 and 32 are not met, then 17 and 18
module _ {l q c flags : List ℕ} (m : Marks l q c flags 0) where
  none_met : first (exam16 c) (exam32 q c) ≡ 0
  none_met = sym m.answers

  pub passes : exam16 c ≡ 0
  passes = (first_zero (exam16 c) (exam32 q c) none_met).0

  pub coded_stop : {n : ℕ} → exam1718 (bare l c) ≡ suc n → Coded l q c flags (suc n)
  coded_stop e = record { answers = rw (none_met, e); marked = λ y. absurd (omega arith) }

  pub coded_end : exam1718 (bare l c) ≡ 0 → Coded l q c flags 0
  coded_end e = record { answers = rw (none_met, e); marked = λ y. flags_mark (m.flagged refl) }
