-- What a caller in C reads in the field `refusal`: of every answer that is not refused by 0, it is 0 exactly where the answer is no refusal.
-- Assumes nothing.
use mathlib.Core.Path.{◌≡◌, refl}
use mathlib.Core.Logic.{◌↔◌}
use Rattle.format.specs.Bytes.{Answer}
use Rattle.format.specs.Load.{Counts}
use Rattle.format.specs.Run.{Standing, finished, stands}
use Rattle.format.proofs.Answers.{NotZero, Valued, zero_iff}
use Rattle.boundary.specs.Structs.{loaded_is, standing_is, followed_is}

pub loaded_zero : (x : Answer Counts) → NotZero x → ((loaded_is x).refusal ≡ 0) ↔ Valued x
loaded_zero = zero_iff (λ x. (loaded_is x).refusal) (λ _. refl) (λ _. refl)

pub followed_zero : (x : Answer Standing) → NotZero x → ((followed_is x).refusal ≡ 0) ↔ Valued x
followed_zero = zero_iff (λ x. (followed_is x).refusal) standing_zero (λ _. refl)
  where
    standing_zero : (s : Standing) → (standing_is s).refusal ≡ 0
    standing_zero finished = refl
    standing_zero (stands f l n) = refl
