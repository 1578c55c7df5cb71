-- What holds of what was read, where the reading ended well: of each row, of a part, and of a whole file.
-- Assumes nothing.
use Prim.Native.Nat.{ℕ, zero, suc, ◌+◌, ◌<◌}
use native.Mathlib.Nat.{le_of_suc-le-suc}
use native.Mathlib.Omega.{arith}
use mathlib.Core.Path.{◌≡◌, refl}
use mathlib.Core.Bool.{Bool, true, false, cond}
use mathlib.Core.List.{List, [], ◌∷◌}
use lib.Dec.{eqb}
use lib.ListN.{length, get_or}
use borrow.Author.Tests.{eqb-true}
use Rattle.format.specs.Bytes.{Answer, ok, refused, bind, on_answer, Step, has}
use Rattle.format.specs.Reading.{Read, Part, part, and_then, more, in_turn}
use Rattle.format.specs.Allowance.{Allowance}
use Rattle.format.specs.File.{Content, section_at, sections, nothing, file_refusal, file_reading}
use Rattle.format.proofs.Answers.{ok_refused, either, Answers}
use Rattle.format.proofs.File.{Accepted, accepted}

-- an answer that was made of another's value, and a reading behind another: the first was not refused
pub bind_ok : {A B : Type 0} (x : Answer A) (k : A → Answer B) (b : B) → bind x k ≡ ok b → (a : A) × (x ≡ ok a) × (k a ≡ ok b)
bind_ok (ok a) k b e = (a, refl, e)
bind_ok (refused n) k b e = absurd (ok_refused e)

pub and_then_ok : {R : Type 0} (x : Answer ℕ) (k : ℕ → Read R) (to : ℕ) → (and_then x k).end ≡ ok to → (at : ℕ) × (x ≡ ok at) × ((k at).end ≡ ok to)
and_then_ok (ok at) k to e = (at, refl, e)
and_then_ok (refused n) k to e = absurd (ok_refused e)

-- P holds of each element of a list
abbrev pub Each : {A : Type 0} → (A → Type 0) → List A → Type 0
Each {A = A} P l = (i : ℕ) (d : A) → i < length l → P (get_or l i d)

module _ {A : Type 0} (P : A → Type 0) where
  pub each_none : Each P []
  each_none i d h = absurd (omega arith)

  pub each_more : (a : A) (l : List A) → P a → Each P l → Each P (a ∷ l)
  each_more a l x y zero d h = x
  each_more a l x y (suc i) d h = y i d (le_of_suc-le-suc h)

  -- rows in turn, refused or not: what holds of every row that the parser answers
  pub in_turn_each : (p : ℕ → Answer (Step A)) → ((at : ℕ) → Answers (λ s. P s.it) (p at)) → (n at : ℕ) → Each P (in_turn p n at).rows
  in_turn_each p x zero at = each_none
  in_turn_each p x (suc n) at = go (p at) (x at) (in_turn_each p x n)
    where
      go : (a : Answer (Step A)) → Answers (λ s. P s.it) a → ((at : ℕ) → Each P (in_turn p n at).rows) → Each P (more a (in_turn p n)).rows
      go (ok s) y ih = each_more s.it (in_turn p n s.next).rows y (ih s.next)
      go (refused e) y ih = each_none

-- what holds of a part, or of the rows of a reading, that ended well
abbrev pub Good : {A : Type 0} → (A → Type 0) → Part A → Type 0
Good P x = (to : ℕ) → x.end ≡ ok to → P x.it

abbrev pub GoodRows : {R : Type 0} → (List R → Type 0) → Read R → Type 0
GoodRows P x = (to : ℕ) → x.end ≡ ok to → P x.rows

-- what each section that ends well keeps, a file that ends well keeps
module _ (f : List ℕ) (a : Allowance) (P : Content → Type 0) (keeps : (c : Content) (at : ℕ) → P c → Good P (section_at f a.records c at)) where
  sections_keep : (n : ℕ) (c : Content) (at : ℕ) → P c → Good P (sections f a.records n c at)
  unfolding sections
  sections_keep zero c at x to e = x
  sections_keep (suc n) c at x to e = go (has f at 4) s.end refl e (sections_keep n)
    where
      s : Part Content
      s = section_at f a.records c at

      on : Answer ℕ → Part Content
      on q = on_answer q (λ size. sections f a.records n s.it (at + size)) (λ k. part s.it (refused k))

      go : (b : Bool) (q : Answer ℕ) → s.end ≡ q → (cond b (on q) (part c (ok at))).end ≡ ok to
          → ((c : Content) (at : ℕ) → P c → Good P (sections f a.records n c at)) → P (cond b (on q) (part c (ok at))).it
      go false q h e ih = x
      go true (ok size) h e ih = ih s.it (at + size) (keeps c at x size h) to e
      go true (refused k) h e ih = absurd (ok_refused e)

  pub reading_keeps : P nothing → Good P (file_reading f a)
  unfolding file_reading
  reading_keeps x = either (Good P) (eqb (file_refusal f a.bytes) 0) _ _ (λ _. sections_keep (length f) nothing 20 x) (λ _ to e. x)

-- a file that nothing refuses is one that its tests accept
pub reading_accepted : (f : List ℕ) (a : Allowance) → Good (λ _. Accepted f a.bytes) (file_reading f a)
unfolding file_reading
reading_accepted f a =
    either (Good (λ _. Accepted f a.bytes)) (eqb (file_refusal f a.bytes) 0) _ _ (λ z to e. accepted f a.bytes (eqb-true _ _ z)) (λ _ to e. absurd (ok_refused e))
