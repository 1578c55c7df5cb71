-- Numbers in base ten: one digit more, and how many there are at most.
-- Assumes nothing.
use Prim.Native.Nat.{ℕ, zero, suc, ◌+◌, ◌-◌, ◌*◌, ◌/◌, ◌%◌, ◌^◌, ◌≤◌, ◌<◌}
use native.Mathlib.Nat.{zero-add, suc-add, pow-suc}
use native.Mathlib.Omega.{arith}
use mathlib.Core.Path.{◌≡◌, refl, ap, ◌∙◌}
use mathlib.Core.Bool.{Bool, true, false, cond}
use mathlib.Core.List.{List, [], ◌∷◌, ◌++◌}
use lib.Dec.{ltb}
use lib.ListN.{length, length-append}
use borrow.Author.Tests.{ltb-true, ltb-false, lt-ltb, le-ltb}
use Rattle.format.specs.Steps.{digit, digits, decimal}

-- what a test leaves out may differ
otherwise : {A : Type 0} (b : Bool) (x y z : A) → (b ≡ false → y ≡ z) → cond b x y ≡ cond b x z
otherwise true x y z h = refl
otherwise false x y z h = h refl

-- more digits than a number has make no difference
digits_more : (k n : ℕ) → n < k → digits (suc k) n ≡ digits k n
unfolding digits
digits_more zero n h = absurd (omega arith)
digits_more (suc k) n h =
    ap (λ t. t ++ digit (n % 10) ∷ []) (otherwise (ltb n 10) [] _ _ (λ e. digits_more k (n / 10) (omega (arith, ltb-false n 10 e))))

digits_enough : (j k n : ℕ) → n < k → digits (j + k) n ≡ digits k n
digits_enough zero k n h = rw zero-add
digits_enough (suc j) k n h = rw suc-add (digits_more (j + k) n (omega arith) ∙ digits_enough j k n h)

digits_fewer : (n : ℕ) → 10 ≤ n → digits n (n / 10) ≡ digits (suc (n / 10)) (n / 10)
digits_fewer n h =
    let k = n - suc (n / 10) in
    let z : n ≡ k + suc (n / 10) = omega arith in
    ap (λ m. digits m (n / 10)) z ∙ digits_enough k (suc (n / 10)) (n / 10) (omega arith)

-- the last digit behind the others
pub decimal_turn : (n : ℕ) → decimal n ≡ cond (ltb n 10) [] (decimal (n / 10)) ++ digit (n % 10) ∷ []
unfolding decimal digits
decimal_turn n = ap (λ t. t ++ digit (n % 10) ∷ []) (otherwise (ltb n 10) [] _ _ (λ e. digits_fewer n (ltb-false n 10 e)))

pub decimal_small : (n : ℕ) → n < 10 → decimal n ≡ digit n ∷ []
decimal_small n h =
    let z : n % 10 ≡ n = omega arith in
    decimal_turn n ∙ ap (λ b. cond b [] (decimal (n / 10)) ++ digit (n % 10) ∷ []) (lt-ltb n 10 h) ∙ ap (λ d. digit d ∷ []) z

pub decimal_large : (n : ℕ) → 10 ≤ n → decimal n ≡ decimal (n / 10) ++ digit (n % 10) ∷ []
decimal_large n h = decimal_turn n ∙ ap (λ b. cond b [] (decimal (n / 10)) ++ digit (n % 10) ∷ []) (le-ltb n 10 h)

-- at most k + 1 digits
pub decimal_short : (k n : ℕ) → n < 10 ^ suc k → length (decimal n) ≤ suc k
decimal_short zero n h = let e = ap length (decimal_small n h) in omega arith
decimal_short (suc k) n h = go (ltb n 10) refl (λ l. decimal_short k (n / 10) l)
  where
    go : (b : Bool) → ltb n 10 ≡ b → (n / 10 < 10 ^ suc k → length (decimal (n / 10)) ≤ suc k) → length (decimal n) ≤ suc (suc k)
    go true e g = let z = ap length (decimal_small n (ltb-true n 10 e)) in omega arith
    go false e g =
        let p : 10 ^ suc (suc k) ≡ 10 ^ suc k * 10 = pow-suc 10 (suc k) in
        let l : n / 10 < 10 ^ suc k = omega arith in
        let z = ap length (decimal_large n (ltb-false n 10 e)) in
        let y = length-append (decimal (n / 10)) (digit (n % 10) ∷ []) in
        omega (arith, g l)
