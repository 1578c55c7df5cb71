-- A packed number is below 2 ^ 32, of bytes or of anything else.
-- Assumes nothing.
use Prim.Native.Nat.{ℕ, zero, suc, ◌+◌, ◌*◌, ◌%◌, ◌<◌}
use native.Mathlib.Omega.{arith}
use mathlib.Core.Path.{◌≡◌, refl, subst}
use mathlib.Core.Bool.{Bool, true, false, cond}
use mathlib.Core.List.{List}
use lib.Dec.{ltb}
use lib.ListN.{length}
use borrow.Author.Tests.{ltb-true}
use Rattle.format.specs.Bytes.{Answer, ok, refused, bind, Step, step, byte}
use Rattle.format.specs.Packed.{wrap, packed_from, packed}

Small : Answer (Step ℕ) → Type 0
Small (ok r) = r.it < 4294967296
Small (refused e) = Unit {0}

from_small : (s : List ℕ) (left at : ℕ) → Small (packed_from s left at)
unfolding Small packed_from
from_small s zero at = tt
from_small s (suc left) at = go (ltb at (length s)) (ltb (byte s at) 128) refl (packed_from s left (at + 1))
  where
    go : (p q : Bool) → ltb (byte s at) 128 ≡ q → (r : Answer (Step ℕ))
        → Small (cond p (cond q (ok (step (byte s at) (at + 1))) (bind r (λ r. ok (step (wrap (byte s at % 128 + 128 * r.it)) r.next)))) (refused 7))
    go false q e r = tt
    go true true e r = let h = ltb-true (byte s at) 128 e in omega arith
    go true false e (refused k) = tt
    go true false e (ok r) = omega arith

pub packed_below : (s : List ℕ) (at : ℕ) (r : Step ℕ) → packed s at ≡ ok r → r.it < 4294967296
unfolding Small packed
packed_below s at r e = subst Small e (from_small s 5 at)
