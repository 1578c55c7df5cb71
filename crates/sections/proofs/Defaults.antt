-- The value of an `Option`, or the default where one value alone is the default.
-- Assumes nothing.
use Rattle.std.specs.Prelude.{◌≡◌, Option, Some, None}
use Rattle.std.specs.Option.{UnwrapsOrElse, unwrap_or}

pub or_default : {T : Type 0} (d : T) (IsDefault : T → Type 0) (r : T) (o : Option T) → (IsDefault r → r ≡ d) → UnwrapsOrElse o IsDefault r → r ≡ unwrap_or o d
or_default d IsDefault r None one e = one e
or_default d IsDefault r (Some x) one e = e
