-- What a caller in C reads in the field `refusal`: of every answer that is not refused by 0, it is 0 exactly where the answer is no refusal.
-- Assumes nothing.
use mathlib.Core.Path.{◌≡◌, refl}
use mathlib.Core.Logic.{◌↔◌}
use Rattle.format.specs.Bytes.{Answer}
use Rattle.format.specs.Insn.{Insn}
use Rattle.format.proofs.Answers.{NotZero, Valued, zero_iff}
use Rattle.boundary_steps.specs.Structs.{fetched_is}

pub fetched_zero : (x : Answer Insn) → NotZero x → ((fetched_is x).refusal ≡ 0) ↔ Valued x
fetched_zero = zero_iff (λ x. (fetched_is x).refusal) (λ _. refl) (λ _. refl)
