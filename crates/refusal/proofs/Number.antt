-- No refusal's number is 0.
-- Assumes nothing.
use mathlib.Core.Path.{◌≡◌, refl}
use mathlib.Core.Bool.{false}
use lib.Dec.{eqb}
use Rattle.refusal.specs.declared.Refusal.{Refusal}
use Rattle.refusal.specs.declared.Refusal.TheVariants as refusal
use Rattle.refusal.specs.Number.{number}

pub number_above_0 : (e : Refusal) → eqb (number e) 0 ≡ false
number_above_0 refusal.FileTooLong = refl
number_above_0 _ = refl
