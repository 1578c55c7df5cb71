-- How many rows a reading has, by the bytes that it goes over: each row takes a byte at least.
-- Assumes nothing.
use Prim.Native.Nat.{ℕ, zero, suc, ◌+◌, ◌≤◌}
use native.Mathlib.Omega.{arith}
use mathlib.Core.Path.{◌≡◌, refl}
use mathlib.Core.Bool.{Bool}
use mathlib.Core.List.{List, [], ◌∷◌, ◌++◌}
use lib.ListN.{length, length-append}
use Rattle.format.specs.Bytes.{Answer, ok, refused, Step}
use Rattle.format.specs.Reading.{Read, Part, and_then, more, in_turn}
use Rattle.format.specs.Irep.{Rec}
use Rattle.format.specs.Walk.{walk}
use Rattle.format.specs.Load.{joined}
use Rattle.format.proofs.Answers.{either, Answers}

-- n rows from `at` on, with `next` behind them and inside the limit
pub record Covers (limit at n next : ℕ) : Type 0 where
  pub low : at + n ≤ next
  pub high : next ≤ limit

-- what a parser reads moves on and stays inside
abbrev pub Moves : {R : Type 0} → ℕ → ℕ → Answer (Step R) → Type 0
Moves limit at a = Answers (λ s. Covers limit at 1 s.next) a

-- the place that a reading goes on at: one that is refused may have come to the limit
abbrev pub reached : ℕ → Answer ℕ → ℕ
reached limit (ok next) = next
reached limit (refused e) = limit

-- n rows from `at` on, and how that ended
abbrev pub Within : ℕ → ℕ → ℕ → Answer ℕ → Type 0
Within limit at n e = Covers limit at n (reached limit e)

-- w counts the rows of a reading, and of a part
abbrev pub Reads : {R : Type 0} → ℕ → (List R → ℕ) → ℕ → Read R → Type 0
Reads limit w at x = Within limit at (w x.rows) x.end

abbrev pub Takes : {A : Type 0} → ℕ → (A → ℕ) → ℕ → Part A → Type 0
Takes limit w at x = Within limit at (w x.it) x.end

-- a count of rows that may be taken list by list
pub record Additive {R : Type 0} (w : List R → ℕ) : Type 0 where
  pub none : w [] ≡ 0
  pub both : (a b : List R) → w (a ++ b) ≡ w a + w b

-- as the length is
pub length_additive : {R : Type 0} → Additive {R = R} length
length_additive = record { none = refl; both = length-append }

module _ (limit : ℕ) where
  -- no rows: reading goes on, or is refused
  pub none_within : (at : ℕ) → at ≤ limit → Covers limit at 0 at
  none_within at h = record { low = omega arith; high = h }

  pub cut_within : (at : ℕ) → at ≤ limit → Covers limit at 0 limit
  cut_within at h = record { low = omega arith; high = omega arith }

  -- rows before the others
  pub more_within : (at m n next end : ℕ) → Covers limit at m next → Covers limit next n end → Covers limit at (m + n) end
  more_within at m n next end c d = record { low = omega arith; high = d.high }

  -- one reading, and the next
  pub and_then_within : {R : Type 0} (w : List R → ℕ) → w [] ≡ 0 → (at n : ℕ) (e : Answer ℕ) (k : ℕ → Read R) → Within limit at n e
      → ((next : ℕ) → next ≤ limit → Reads limit w next (k next))
      → Within limit at (n + w (and_then e k).rows) (and_then e k).end
  and_then_within w z at n (refused e) k c h = record { low = omega arith; high = omega arith }
  and_then_within w z at n (ok next) k c h = more_within at n (w (k next).rows) next _ c (h next c.high)

  -- a parser's rows, n at most
  pub in_turn_within : {R : Type 0} (p : ℕ → Answer (Step R)) → ((at : ℕ) → Moves limit at (p at))
      → (n at : ℕ) → at ≤ limit → Reads limit length at (in_turn p n at)
  in_turn_within p m zero at h = none_within at h
  in_turn_within p m (suc n) at h = go (p at) (m at) (in_turn_within p m n)
    where
      go : (a : Answer (Step _)) → Moves limit at a → ((at : ℕ) → at ≤ limit → Reads limit length at (in_turn p n at))
          → Reads limit length at (more a (in_turn p n))
      go (refused e) c ih = cut_within at h
      go (ok s) c ih = let d = ih s.next c.high in record { low = omega arith; high = d.high }

  -- the rows of all the records that a walk visits
  pub walk_within : {R : Type 0} (w : List R → ℕ) → Additive w → (visit : Rec → ℕ → Part (List R))
      → ((r : Rec) (at : ℕ) → at ≤ limit → Takes limit w at (visit r at))
      → (spent : ℕ → Bool) (rs : List Rec) (pending at : ℕ) → at ≤ limit → Reads limit (λ ls. w (joined ls)) at (walk visit spent rs pending at)
  unfolding walk
  walk_within w a visit v spent [] pending at h = rw a.none (none_within at h)
  walk_within w a visit v spent (r ∷ rs) zero at h = rw a.none (none_within at h)
  walk_within w a visit v spent (r ∷ rs) (suc pending) at h =
      let k = walk visit spent rs (r.head.rlen + pending) in
      let x = visit r at in
      either (Reads limit (λ ls. w (joined ls)) at) (spent at) _ _
      (λ _. rw a.none (none_within at h))
      (λ _. rw (a.both x.it (joined (and_then x.end k).rows))
      (and_then_within (λ ls. w (joined ls)) a.none at (w x.it) x.end k (v r at h) (walk_within w a visit v spent rs (r.head.rlen + pending))))

-- n rows at most
pub in_turn_count : {R : Type 0} (p : ℕ → Answer (Step R)) (n at : ℕ) → length (in_turn p n at).rows ≤ n
in_turn_count p zero at = omega arith
in_turn_count p (suc n) at = go (p at) (in_turn_count p n)
  where
    go : (a : Answer (Step _)) → ((at : ℕ) → length (in_turn p n at).rows ≤ n) → length (more a (in_turn p n)).rows ≤ suc n
    go (ok s) ih = let h = ih s.next in omega arith
    go (refused e) ih = omega arith
