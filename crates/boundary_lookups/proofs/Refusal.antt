-- What a caller in C reads in the field `refusal`: of every answer that is not refused by 0, it is 0 exactly where the answer is no refusal.
-- Assumes nothing.
use Prim.Native.Nat.{ℕ}
use mathlib.Core.Path.{◌≡◌, refl}
use mathlib.Core.Logic.{◌↔◌}
use mathlib.Core.Option.{Option, none, some}
use Rattle.format.specs.Bytes.{Answer, ok}
use Rattle.format.specs.Rows.{TextRow, HandlerRow}
use Rattle.format.specs.Lookup.{Constant, text, big, int, float, DebugFile}
use Rattle.format.proofs.Answers.{NotZero, Valued, zero_iff}
use Rattle.boundary_lookups.specs.Structs.{text_is, handler_is, value_is, constant_is, name_is, debug_file_is, looked_line_is}

pub text_zero : (x : Answer TextRow) → NotZero x → ((text_is x).refusal ≡ 0) ↔ Valued x
text_zero = zero_iff (λ x. (text_is x).refusal) (λ _. refl) (λ _. refl)

pub handler_zero : (x : Answer HandlerRow) → NotZero x → ((handler_is x).refusal ≡ 0) ↔ Valued x
handler_zero = zero_iff (λ x. (handler_is x).refusal) (λ _. refl) (λ _. refl)

pub constant_zero : (x : Answer Constant) → NotZero x → ((constant_is x).refusal ≡ 0) ↔ Valued x
constant_zero = zero_iff (λ x. (constant_is x).refusal) value_zero (λ _. refl)
  where
    value_zero : (c : Constant) → (value_is c).refusal ≡ 0
    value_zero (text t) = refl
    value_zero (big t) = refl
    value_zero (int n) = refl
    value_zero (float x) = refl

pub name_zero : (x : Answer (Option TextRow)) → NotZero x → ((name_is x).refusal ≡ 0) ↔ Valued x
name_zero = zero_iff (λ x. (name_is x).refusal) named_zero (λ _. refl)
  where
    named_zero : (t : Option TextRow) → (name_is (ok t)).refusal ≡ 0
    named_zero none = refl
    named_zero (some t) = refl

pub debug_file_zero : (x : Answer DebugFile) → NotZero x → ((debug_file_is x).refusal ≡ 0) ↔ Valued x
debug_file_zero = zero_iff (λ x. (debug_file_is x).refusal) (λ _. refl) (λ _. refl)

pub looked_line_zero : (x : Answer (Option ℕ)) → NotZero x → ((looked_line_is x).refusal ≡ 0) ↔ Valued x
looked_line_zero = zero_iff (λ x. (looked_line_is x).refusal) line_zero (λ _. refl)
  where
    line_zero : (l : Option ℕ) → (looked_line_is (ok l)).refusal ≡ 0
    line_zero none = refl
    line_zero (some l) = refl
