-- Laws of answers, of tests and of rows in turn: what holds of the value that was answered, or of the number of the refusal.
-- Assumes nothing.
use Prim.Native.Nat.{ℕ, zero, suc, ◌≤◌}
use native.Mathlib.Omega.{arith}
use mathlib.Core.Path.{◌≡◌, refl, ap, ◌∙◌, sym}
use mathlib.Core.Logic.{◌↔◌, ◌⊎◌, inl, inr}
use mathlib.Core.Bool.{Bool, true, false, not, cond}
use lib.Dec.{T}
use lib.ListN.{length}
use Rattle.format.specs.Bytes.{Answer, ok, refused, bind, on_answer, refuse, first, Step}
use Rattle.format.specs.Reading.{more, in_turn}

-- a test has one outcome
pub false_true : false ≡ true → ⊥
false_true e = let z : ◌≡◌ {A = ℕ} 0 1 = cc in omega arith

-- an answer is a value or a refusal, not both
pub ok_refused : {A : Type 0} {a : A} {e : ℕ} → refused e ≡ ok a → ⊥
ok_refused h = let z : ◌≡◌ {A = ℕ} 0 1 = cc in omega arith

-- and of one value, or of one number
pub ok_same : {A : Type 0} {a b : A} → ok a ≡ ok b → a ≡ b
ok_same e = cc

pub refused_same : {A : Type 0} {m n : ℕ} → ◌≡◌ {A = Answer A} (refused m) (refused n) → m ≡ n
refused_same e = cc

-- what holds either way of a test holds of its outcome
pub either : {A : Type 0} (P : A → Type 0) (b : Bool) (x y : A) → (b ≡ true → P x) → (b ≡ false → P y) → P (cond b x y)
either P true x y h g = h refl
either P false x y h g = g refl

-- P holds of the value that was answered, R of the number of the refusal
abbrev pub Holds : {A : Type 0} → (A → Type 0) → (ℕ → Type 0) → Answer A → Type 0
Holds P R (ok a) = P a
Holds P R (refused e) = R e

-- of the value alone, and of the number alone
abbrev pub Answers : {A : Type 0} → (A → Type 0) → Answer A → Type 0
Answers P x = Holds P (λ _. Unit {0}) x

abbrev pub Refuses : {A : Type 0} → (ℕ → Type 0) → Answer A → Type 0
Refuses R x = Holds (λ _. Unit {0}) R x

-- nothing is said of either
pub anything : {A : Type 0} (x : Answer A) → Answers (λ _. Unit {0}) x
anything (ok a) = tt
anything (refused e) = tt

-- less is said of the value, and of the number
pub implied : {A : Type 0} (P Q : A → Type 0) (R : ℕ → Type 0) (x : Answer A) → Holds P R x → ((a : A) → P a → Q a) → Holds Q R x
implied P Q R (ok a) h g = g a h
implied P Q R (refused e) h g = h

pub weaker : {A : Type 0} (P : A → Type 0) (R S : ℕ → Type 0) (x : Answer A) → Holds P R x → ((e : ℕ) → R e → S e) → Holds P S x
weaker P R S (ok a) h g = h
weaker P R S (refused e) h g = g e h

-- what holds of all that may be made of an answer holds of what is made of it
pub answered : {A B : Type 0} (Q : A → Type 0) (R : ℕ → Type 0) (P : B → Type 0) (x : Answer A) (k : A → B) (r : ℕ → B)
    → Holds Q R x → ((a : A) → Q a → P (k a)) → ((e : ℕ) → R e → P (r e)) → P (on_answer x k r)
answered Q R P (ok a) k r q h g = h a q
answered Q R P (refused e) k r q h g = g e q

module _ {A : Type 0} (P : A → Type 0) (R : ℕ → Type 0) where
  -- a test that refuses
  pub tested : (b : Bool) (x : Answer A) (e : ℕ) → R e → (b ≡ true → Holds P R x) → Holds P R (cond b x (refused e))
  tested b x e r h = either (Holds P R) b x (refused e) h (λ _. r)

  -- an answer made of another's value
  pub chained : {B : Type 0} (Q : B → Type 0) (x : Answer B) (k : B → Answer A) → Holds Q R x → ((b : B) → Q b → Holds P R (k b)) → Holds P R (bind x k)
  chained Q (ok b) k q h = h b q
  chained Q (refused e) k q h = q

-- the first refusal of two, and the refusal of a test
pub first_zero : (a b : ℕ) → first a b ≡ 0 → (a ≡ 0) × (b ≡ 0)
first_zero zero b e = (refl, e)
first_zero (suc a) b e = omega arith

pub zero_first : (a b : ℕ) → a ≡ 0 → b ≡ 0 → first a b ≡ 0
zero_first zero b p q = q
zero_first (suc a) b p q = omega arith

pub first_hit : (a b n : ℕ) → first a b ≡ suc n → (a ≡ suc n) ⊎ (b ≡ suc n)
first_hit zero b n e = inr e
first_hit (suc a) b n e = inl e

pub refuse_zero : (n : ℕ) (b : Bool) → refuse (suc n) b ≡ 0 → T b
refuse_zero n true e = tt
refuse_zero n false e = omega arith

pub refuse_pass : (n : ℕ) (b : Bool) → T b → refuse n b ≡ 0
refuse_pass n true t = refl
refuse_pass n false t = absurd t

pub refuse_hit : (k n : ℕ) (b : Bool) → refuse k b ≡ suc n → (k ≡ suc n) × T (not b)
refuse_hit k n true e = omega arith
refuse_hit k n false e = (e, tt)

-- it is not refused by 0
abbrev pub NotZero : {A : Type 0} → Answer A → Type 0
NotZero x = (e : ℕ) → x ≡ refused e → 1 ≤ e

-- it is no refusal
abbrev pub Valued : {A : Type 0} → Answer A → Type 0
Valued {A = A} x = (a : A) × (x ≡ ok a)

-- a field that is 0 for every value and the number for every refusal is 0 exactly where the answer is no refusal
module _ {A : Type 0} (field : Answer A → ℕ) (valued : (a : A) → field (ok a) ≡ 0) (number : (e : ℕ) → field (refused e) ≡ e) where
  pub zero_iff : (x : Answer A) → NotZero x → (field x ≡ 0) ↔ Valued x
  zero_iff (ok a) h = (λ _. (a, refl), λ _. valued a)
  zero_iff (refused e) h =
      (λ z. let k : e ≡ 0 = sym (number e) ∙ z in let g = h e refl in absurd (omega arith), λ y. absurd (ok_refused y.1))

-- n rows in turn that nothing refuses are n
pub in_turn_all : {R : Type 0} (p : ℕ → Answer (Step R)) (n at to : ℕ) → (in_turn p n at).end ≡ ok to → length (in_turn p n at).rows ≡ n
in_turn_all p zero at to e = refl
in_turn_all p (suc n) at to e = go (p at) e (in_turn_all p n)
  where
    go : (a : Answer (Step _)) → (more a (in_turn p n)).end ≡ ok to
        → ((at to : ℕ) → (in_turn p n at).end ≡ ok to → length (in_turn p n at).rows ≡ n) → length (more a (in_turn p n)).rows ≡ suc n
    go (ok s) e ih = ap suc (ih s.next to e)
    go (refused k) e ih = absurd (ok_refused e)
