-- The loop that tests 16, 25 and 32 and sets the flags: it goes from instruction to instruction over flags that are 0.
-- Assumes nothing.
use Prim.Native.Nat.{ℕ, ◌+◌, ◌-◌, ◌≤◌, ◌<◌}
use native.Mathlib.Nat.{sub-zero, eq-or-lt_of_le}
use native.Mathlib.Omega.{arith}
use mathlib.Core.Path.{◌≡◌, refl, sym, ap, ◌∙◌}
use mathlib.Core.Logic.{◌⊎◌, inl, inr}
use mathlib.Core.Bool.{Bool, true, false, ◌&&◌}
use mathlib.Core.List.{List}
use lib.Dec.{ltb}
use lib.ListN.{length, get_or, set, drop, length-set}
use lib.Seq.{drop-cons, get_or-set_same, get_or-set_other}
use borrow.Author.Tests.{ltb-true, ltb-false, lt-ltb}
use Rattle.format.specs.Bytes.{refuse, first}
use Rattle.format.specs.Insn.{next}
use Rattle.format.specs.Pattern.{reach, begins}
use Rattle.format.specs.Permitted.{permitted_at}
use Rattle.format.specs.Exam.{first_at, at16, at32, exam16, exam32}
use Rattle.runs.proofs.Loops.{first_at_turn, first_at_end, reach_turn, reach_over}
use Rattle.flags.specs.Flags.{Entire, told_at}
use Rattle.flags.proofs.Tests.{Passed, entire_whole}
use Rattle.scan.specs.Scan.{Cleared, Marks}
use Rattle.scan.proofs.First.{first_some, first_assoc, first_last, refuse_both}

-- the loop that tests, at the instruction i; all: the ones before it are permitted
pub record Marking (l q c flags : List ℕ) (all : Bool) (i : ℕ) : Type 0 where
  pub room : length c ≤ length flags
  pub ahead : (o : ℕ) → i ≤ o → begins c o ≡ reach (drop i c) 0 (o - i)
  pub upto : (o : ℕ) → o < i → get_or flags o 0 ≡ told_at l c o
  pub clear : (o : ℕ) → i ≤ o → o < length c → get_or flags o 0 ≡ 0
  pub so : exam16 c ≡ first_at (at16 c) (drop i c) 0 i
  pub told : exam32 q c ≡ first (refuse 32 all) (first_at (at32 q c) (drop i c) 0 i)

-- a record with no byte
pub marks_empty : (l q c flags : List ℕ) → length c ≡ 0 → Marks l q c flags 16
unfolding exam16
marks_empty l q c flags e = record { answers = rw e; flagged = λ z. absurd (omega arith) }

module _ {l q c : List ℕ} where
  pub marking_start : {before flags : List ℕ} → (length c ≡ 0 → ⊥) → length c ≤ length before → Cleared before (length c) flags → Marking l q c flags true 0
  unfolding exam16 exam32
  marking_start z h g = record {
    room = omega (arith, g.long);
    ahead = λ o k. rw sub-zero;
    upto = λ o k. absurd (omega arith);
    clear = λ o k q. g.none o q;
    so = rw (lt-ltb 0 (length c) (omega arith));
    told = refl;
  }

  module _ {flags : List ℕ} {all : Bool} {i : ℕ} (h : i < length c) (m : Marking l q c flags all i) where
    turned : exam16 c ≡ first (at16 c i) (first_at (at16 c) (drop (next c i) c) 0 (next c i))
    turned = m.so ∙ first_at_turn (at16 c) c i h

    -- the instruction at i meets 16 or 25
    pub marks_met : {n : ℕ} → at16 c i ≡ n → (n ≡ 0 → ⊥) → Marks l q c flags n
    marks_met {n} e z = record { answers = rw (turned, e) (first_some n _ z ∙ sym (first_assoc n _ _)); flagged = λ y. absurd (z y) }

    -- it meets neither: n is its size, f its flag
    module _ {n f : ℕ} (p : Passed l c i n f) where
      pub entire : Entire c i
      entire = record { inside = h; none = p.none }

      pub inside : i + n ≤ length c
      inside = omega (arith, p.next_is, entire_whole entire)

      here : begins c i ≡ true
      unfolding reach
      here = let z : i - i ≡ 0 = omega arith in m.ahead i (omega arith) ∙ rw (z, drop-cons c i 0 h)

      -- the flags below the next offset
      stored : (o : ℕ) → o < next c i → get_or (set flags i f) o 0 ≡ told_at l c o
      stored o g = go (ltb o i) refl
        where
          at : (i ≡ o) ⊎ (i < o) → get_or (set flags i f) o 0 ≡ told_at l c o
          at (inl z) = rw (← z, get_or-set_same flags i f 0 (omega (arith, m.room)), here) p.flag_is
          at (inr z) =
              rw (get_or-set_other flags i o f 0 (λ y. omega arith), m.ahead o (omega arith), reach_over c i o h z g)
              (m.clear o (omega arith) (omega (arith, p.next_is, inside)))

          go : (x : Bool) → ltb o i ≡ x → get_or (set flags i f) o 0 ≡ told_at l c o
          go true z = let y = ltb-true o i z in rw (get_or-set_other flags i o f 0 (λ x. omega arith)) (m.upto o y)
          go false z = at (eq-or-lt_of_le {n = i} {m = o} (ltb-false o i z))

      -- a: the answer with it
      module _ {a : Bool} (s : a ≡ (all && permitted_at q c i)) where
        told_on : exam32 q c ≡ first (refuse 32 a) (first_at (at32 q c) (drop (next c i) c) 0 (next c i))
        told_on =
            m.told ∙ ap (first (refuse 32 all)) (first_at_turn (at32 q c) c i h)
            ∙ refuse_both 31 all (permitted_at q c i) _ ∙ rw s

        pub marking_turn : Marking l q c (set flags i f) a (i + n)
        marking_turn = rw p.next_is record {
          room = simp length-set m.room;
          ahead = λ o g. m.ahead o (omega (arith, p.next_is)) ∙ reach_turn c i o h (omega (arith, p.next_is)) g;
          upto = stored;
          clear = λ o g z. rw (get_or-set_other flags i o f 0 (λ y. omega (arith, p.next_is))) (m.clear o (omega (arith, p.next_is)) z);
          so = turned ∙ rw p.none;
          told = told_on;
        }

  -- at the end
  module _ {flags : List ℕ} {all : Bool} {i : ℕ} (h : length c ≤ i) (m : Marking l q c flags all i) where
    none_16 : exam16 c ≡ 0
    none_16 = m.so ∙ first_at_end (at16 c) c i h

    by_all : exam32 q c ≡ refuse 32 all
    by_all = m.told ∙ ap (first (refuse 32 all)) (first_at_end (at32 q c) c i h) ∙ first_last (refuse 32 all)

    pub marking_32 : all ≡ false → Marks l q c flags 32
    marking_32 e = record { answers = rw (none_16, by_all, e); flagged = λ z. absurd (omega arith) }

    pub marking_end : all ≡ true → Marks l q c flags 0
    marking_end z = record {
      answers = rw (none_16, by_all, z);
      flagged = λ y. record { room = m.room; told = λ o g. m.upto o (omega arith) };
    }
