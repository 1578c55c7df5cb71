-- The tests of an instruction: by its first byte and by the one behind a prefix; and what they say of 16, 25, its size and its flag.
-- Assumes nothing.
use Prim.Native.Nat.{ℕ, zero, suc, ◌+◌, ◌-◌, ◌*◌, ◌≤◌, ◌<◌}
use native.Mathlib.Numerals.{add-one}
use native.Mathlib.Omega.{arith}
use mathlib.Core.Path.{◌≡◌, refl, sym, ap, subst, ◌∙◌}
use mathlib.Core.Bool.{Bool, true, false, ◌&&◌, not, cond}
use mathlib.Core.List.{List}
use lib.Dec.{T, leb, eqb}
use lib.ListN.{length}
use borrow.Author.Tests.{le-leb, lt-leb, leb-true, leb-false, ne_eqb}
use Rattle.format.specs.Bytes.{ok, refused, byte}
use Rattle.format.specs.Insn.{Kind, Z, BB, B, BS, BSS, BBB, S, W, total, fields_by, width, kind, size, known, prefix, lead}
use Rattle.format.specs.Insn.{first_width, second_width, opcode, row_at, next}
use Rattle.format.specs.Exam.{stray, readable, at16}
use Rattle.format.proofs.Answers.{false_true}
use Rattle.format.proofs.Prefix.{first_one_or_two, second_one_or_two}
use Rattle.runs.proofs.Next.{rest_at, next_at, next_alone, opcode_alone, opcode_behind}
use Rattle.runs.proofs.Jumps.{readable_whole}
use Rattle.runs.proofs.Exact.{none_met}
use Rattle.opcode.specs.Digits.{first_byte, second_byte, size_in, instruction, digits_of}
use Rattle.opcode.proofs.Numbers.{few, first_byte_digit, second_byte_digit, no_size, some_size, size_is}
use Rattle.flags.specs.Flags.{bare, Looked, Alone, Entire, size_at, size_behind, flag_at, Found, found, tested_at}

-- a byte that is an instruction by itself, and one that is not
module _ (b : ℕ) where
  pub alone_known : instruction b ≡ true → known b ≡ true
  alone_known e = go (known b) (prefix b) e
    where
      go : (x p : Bool) → (x && not p) ≡ true → x ≡ true
      go true p q = refl
      go false p q = absurd (false_true q)

  pub alone_plain : instruction b ≡ true → prefix b ≡ false
  alone_plain e = go (known b) (prefix b) e
    where
      go : (x p : Bool) → (x && not p) ≡ true → p ≡ false
      go true false q = refl
      go true true q = absurd (false_true q)
      go false p q = absurd (false_true q)

  not_known : false ≡ instruction b → prefix b ≡ false → known b ≡ false
  not_known e p = go (known b) (e ∙ rw p)
    where
      go : (x : Bool) → false ≡ (x && not false) → x ≡ false
      go true q = absurd (false_true q)
      go false q = refl

  pub lead_none : {n : ℕ} → n ≡ lead b → n ≡ 0 → prefix b ≡ false
  lead_none e z = go (prefix b) (sym e ∙ z)
    where
      go : (p : Bool) → ◌≡◌ {A = ℕ} (cond p 1 0) 0 → p ≡ false
      go true q = absurd (omega arith)
      go false q = refl

  pub lead_some : {n : ℕ} → n ≡ lead b → (n ≡ 0 → ⊥) → prefix b ≡ true
  lead_some e z = go (prefix b) (λ q. z (e ∙ q))
    where
      go : (p : Bool) → (◌≡◌ {A = ℕ} (cond p 1 0) 0 → ⊥) → p ≡ true
      go true q = refl
      go false q = absurd (q refl)

-- what the tests answer
module _ (l c : List ℕ) (o : ℕ) where
  pub tested_stray : stray c o ≡ true → refused 25 ≡ tested_at l c o
  unfolding tested_at
  tested_stray e = rw e

  module _ (s : stray c o ≡ false) where
    pub tested_unreadable : readable c o ≡ false → refused 16 ≡ tested_at l c o
    unfolding tested_at
    tested_unreadable r = rw (s, r)

    pub tested_whole : readable c o ≡ true → {n f : ℕ} → n ≡ size_at c o → f ≡ flag_at (bare l c) o → ok (found n f) ≡ tested_at l c o
    unfolding tested_at
    tested_whole r en ef = rw (s, r, en, ef)

-- 16 by the opcode and by the end
module _ (c : List ℕ) (o : ℕ) where
  pub unknown : known (opcode c o) ≡ false → readable c o ≡ false
  unfolding readable
  unknown e = rw e

  module _ (e : known (opcode c o) ≡ true) where
    pub cut : length c < next c o → readable c o ≡ false
    unfolding readable
    cut h = rw (e, lt-leb (next c o) (length c) h)

    pub whole : next c o ≤ length c → readable c o ≡ true
    unfolding readable
    whole h = rw (e, le-leb (next c o) (length c) h)

-- without a prefix
module _ (c : List ℕ) (o : ℕ) (p : prefix (byte c o) ≡ false) where
  pub not_stray : stray c o ≡ false
  unfolding stray
  not_stray = rw p

  pub unknown_alone : false ≡ instruction (byte c o) → readable c o ≡ false
  unknown_alone e = unknown c o (ap known (opcode_alone c o p) ∙ not_known (byte c o) e p)

-- d: the digits of the first byte, which have a size
module _ (c : List ℕ) (o : ℕ) {d : ℕ} (h : o < length c) (e : d ≡ digits_of (byte c o)) (s : size_in d ≡ 0 → ⊥) where
  alone : instruction (byte c o) ≡ true
  alone = some_size (byte c o) e s

  plain_here : prefix (byte c o) ≡ false
  plain_here = alone_plain (byte c o) alone

  looked_here : Looked c o d
  looked_here = record { inside = h; digits = e ∙ ap digits_of (sym (opcode_alone c o plain_here)) }

  pub next_here : o + size_in d ≡ next c o
  next_here = ap (λ (n : ℕ). o + n) (size_is (byte c o) e alone) ∙ sym (next_alone c o plain_here)

  known_here : known (opcode c o) ≡ true
  known_here = ap known (opcode_alone c o plain_here) ∙ alone_known (byte c o) alone

  pub alone_here : size_in d ≤ length c - o → Alone c o d
  alone_here k = record { looked = looked_here; no_prefix = plain_here; next_is = next_here; whole = omega (arith, next_here) }

  -- cut, or whole
  pub cut_here : length c - o < size_in d → at16 c o ≡ 16
  cut_here k = let s = not_stray c o plain_here in rw (s, cut c o known_here (omega (arith, next_here)))

  none_here : size_in d ≤ length c - o → at16 c o ≡ 0
  none_here k = let s = not_stray c o plain_here in rw (s, whole c o known_here (omega (arith, next_here)))

-- behind a prefix
module _ (c : List ℕ) (o : ℕ) (p : prefix (byte c o) ≡ true) where
  pub stray_last : length c ≤ o + 1 → stray c o ≡ true
  unfolding stray
  stray_last h = rw (p, ← add-one, le-leb (length c) (o + 1) h)

  module _ (h : o + 1 < length c) where
    pub stray_again : prefix (byte c (o + 1)) ≡ true → stray c o ≡ true
    unfolding stray
    stray_again q = rw (p, ← add-one, lt-leb (length c) (o + 1) h, q)

    pub not_again : prefix (byte c (o + 1)) ≡ false → stray c o ≡ false
    unfolding stray
    not_again q = rw (p, ← add-one, lt-leb (length c) (o + 1) h, q)

    pub unknown_behind : false ≡ instruction (byte c (o + 1)) → prefix (byte c (o + 1)) ≡ false → readable c o ≡ false
    unknown_behind e q = unknown c o (ap known (opcode_behind c o p) ∙ not_known (byte c (o + 1)) e q)

-- a widened operand has one byte more
total_wide : (x y : ℕ) (k : Kind) → total (fields_by (1 + x) (1 + y) k) ≡ width k + x * first_byte k + y * second_byte k
total_wide x y Z = omega arith
total_wide x y BB = omega arith
total_wide x y B = omega arith
total_wide x y BS = omega arith
total_wide x y BSS = omega arith
total_wide x y BBB = omega arith
total_wide x y S = omega arith
total_wide x y W = omega arith

-- d: the digits of the byte behind the prefix, which have a size
module _ (c : List ℕ) (o : ℕ) {d : ℕ} (h : o + 1 < length c) (p : prefix (byte c o) ≡ true) (e : d ≡ digits_of (byte c (o + 1))) (s : size_in d ≡ 0 → ⊥) where
  behind : instruction (byte c (o + 1)) ≡ true
  behind = some_size (byte c (o + 1)) e s

  pub not_stray_behind : stray c o ≡ false
  not_stray_behind = not_again c o p h (alone_plain (byte c (o + 1)) behind)

  pub looked_behind : Looked c o d
  looked_behind = record { inside = omega arith; digits = e ∙ ap digits_of (sym (opcode_behind c o p)) }

  pub known_behind : known (opcode c o) ≡ true
  known_behind = ap known (opcode_behind c o p) ∙ alone_known (byte c (o + 1)) behind

  pub size_told : size_behind (byte c o) d ≡ size_at c o
  size_told =
      let q = byte c o in
      let r = row_at c o in
      let k = kind r in
      let n = few (opcode c o) in
      let g = looked_behind.digits in
      let x : 1 + (first_width q - 1) ≡ first_width q = omega (arith, first_one_or_two q refl) in
      let y : 1 + (second_width q - 1) ≡ second_width q = omega (arith, second_one_or_two q refl) in
      let t : total (fields_by (first_width q) (second_width q) k) ≡ width k + (first_width q - 1) * first_byte k + (second_width q - 1) * second_byte k
      = rw (x, y) at (total_wide (first_width q - 1) (second_width q - 1) k) in
      let z : size_in d ≡ suc (width k) = size_is (byte c (o + 1)) e behind ∙ ap size (sym (opcode_behind c o p)) in
      let w : size_at c o ≡ suc (1 + total (fields_by (first_width q) (second_width q) k)) = ap suc (rest_at c o ∙ rw p) in
      rw (first_byte_digit r g n, second_byte_digit r g n) (omega (arith, t, z, w))

  pub next_behind : {n : ℕ} → n ≡ size_behind (byte c o) d → o + n ≡ next c o
  next_behind en = ap (λ (n : ℕ). o + n) (en ∙ size_told)

-- the instruction at o meets neither 16 nor 25: n is its size, f its flag
pub record Passed (l c : List ℕ) (o n f : ℕ) : Type 0 where
  pub none : at16 c o ≡ 0
  pub next_is : o + n ≡ next c o
  pub flag_is : f ≡ flag_at (bare l c) o

pub passed_here : (l c : List ℕ) (o : ℕ) {d f : ℕ} → o < length c → d ≡ digits_of (byte c o) → (size_in d ≡ 0 → ⊥) → size_in d ≤ length c - o
    → f ≡ flag_at (bare l c) o → Passed l c o (size_in d) f
passed_here l c o h e s k q = record { none = none_here c o h e s k; next_is = next_here c o h e s; flag_is = q }

-- what an answer of the tests says
met : (m : ℕ) → eqb (suc m) 0 ≡ false
met m = ne_eqb (suc m) 0 (λ (x : suc m ≡ 0). omega arith)

module _ (l c : List ℕ) (o : ℕ) where
  pub tested_met : {k : ℕ} → refused k ≡ tested_at l c o → (at16 c o ≡ k) × (k ≡ 0 → ⊥)
  unfolding tested_at
  tested_met {k} e = go (at16 c o) e
    where
      go : (m : ℕ) → refused k ≡ cond (eqb m 0) (ok (found (size_at c o) (flag_at (bare l c) o))) (refused m) → (m ≡ k) × (k ≡ 0 → ⊥)
      go zero q = absurd cc
      go (suc m) q =
          let r : refused k ≡ refused (suc m) = q ∙ rw (met m) in
          let y : suc m ≡ k = cc in
          (y, λ z. omega arith)

  pub tested_passed : {n f : ℕ} → ok (found n f) ≡ tested_at l c o → Passed l c o n f
  unfolding tested_at
  tested_passed {n} {f} e = go (at16 c o) refl e
    where
      go : (m : ℕ) → at16 c o ≡ m → ok (found n f) ≡ cond (eqb m 0) (ok (found (size_at c o) (flag_at (bare l c) o))) (refused m) → Passed l c o n f
      go zero z q =
          let s : found n f ≡ found (size_at c o) (flag_at (bare l c) o) = cc in
          record { none = z; next_is = ap (λ (x : Found). o + x.size) s; flag_is = ap (λ (x : Found). x.flag) s }
      go (suc m) z q = let r : ok (found n f) ≡ refused (suc m) = q ∙ rw (met m) in absurd cc

-- an instruction that meets neither
module _ {c : List ℕ} {o : ℕ} (t : Entire c o) where
  good : T (not (stray c o)) × T (readable c o)
  good = none_met (stray c o) (readable c o) t.none

  pub entire_whole : next c o ≤ length c
  entire_whole = readable_whole c o good.1

  pub opcode_inside : o + lead (byte c o) < length c
  opcode_inside = omega (arith, next_at c o, entire_whole)

  -- d: the digits of its first byte, which have no size
  module _ {d : ℕ} (e : d ≡ digits_of (byte c o)) (z : size_in d ≡ 0) where
    pub prefix_here : prefix (byte c o) ≡ true
    prefix_here = go (prefix (byte c o)) refl
      where
        go : (p : Bool) → prefix (byte c o) ≡ p → p ≡ true
        go true q = refl
        go false q = absurd (subst T (unknown_alone c o q (no_size (byte c o) e z)) good.1)

    stray_none : stray c o ≡ true → ⊥
    stray_none q = subst (λ (b : Bool). T (not b)) q good.0

    pub behind_inside : o + 1 < length c
    behind_inside = go (leb (length c) (o + 1)) refl
      where
        go : (b : Bool) → leb (length c) (o + 1) ≡ b → o + 1 < length c
        go true q = absurd (stray_none (stray_last c o prefix_here (leb-true (length c) (o + 1) q)))
        go false q = leb-false (length c) (o + 1) q

    pub behind_size : {n : ℕ} → n ≡ digits_of (byte c (o + 1)) → size_in n ≡ 0 → ⊥
    behind_size en y = go (prefix (byte c (o + 1))) refl
      where
        go : (p : Bool) → prefix (byte c (o + 1)) ≡ p → ⊥
        go true q = stray_none (stray_again c o prefix_here behind_inside q)
        go false q = subst T (unknown_behind c o prefix_here behind_inside (no_size (byte c (o + 1)) en y) q) good.1
