-- The test `begins` is paper 01's sentence: at 0, and at each next offset that reading from 0 reaches, while below ilen.
-- Assumes nothing.
use Prim.Native.Nat.{ℕ, zero, suc, ◌+◌, ◌<◌, suc-le-suc}
use native.Mathlib.Nat.{le_of_suc-le-suc, zero-add, suc-add, add-suc}
use native.Mathlib.Omega.{arith}
use mathlib.Core.Path.{◌≡◌, refl, ap}
use mathlib.Core.Logic.{◌↔◌}
use mathlib.Core.Bool.{false}
use mathlib.Core.List.{List, [], ◌∷◌}
use lib.Dec.{T}
use lib.ListN.{length, drop, length-drop}
use lib.Seq.{drop-cons}
use Rattle.format.specs.Bytes.{byte}
use Rattle.format.specs.Insn.{rest, next}
use Rattle.format.specs.Pattern.{reach, begins, Begins, at_zero, at_next}

pub reach_inside : (c : List ℕ) (left o : ℕ) → T (reach c left o) → o < length c
unfolding reach
reach_inside [] left o t = absurd t
reach_inside (b ∷ c) zero zero t = omega arith
reach_inside (b ∷ c) zero (suc o) t = suc-le-suc (reach_inside c _ o t)
reach_inside (b ∷ c) (suc left) zero t = absurd t
reach_inside (b ∷ c) (suc left) (suc o) t = suc-le-suc (reach_inside c left o t)

-- what is left of an instruction is passed over
pass : (c : List ℕ) (left : ℕ) → left < length c → T (reach c left left)
unfolding reach
pass [] left h = absurd (omega arith)
pass (b ∷ c) zero h = tt
pass (b ∷ c) (suc left) h = pass c left (le_of_suc-le-suc h)

-- from a place where one begins, the next begins at the next offset
reach_next : (c : List ℕ) (left o : ℕ) → T (reach c left o) → next c o < length c → T (reach c left (next c o))
unfolding reach
reach_next [] left o t h = absurd t
reach_next (b ∷ c) zero zero t h = rw zero-add (pass c (rest b c) (omega arith))
reach_next (b ∷ c) zero (suc o) t h = rw suc-add (reach_next c (rest b c) o t (omega arith))
reach_next (b ∷ c) (suc left) zero t h = absurd t
reach_next (b ∷ c) (suc left) (suc o) t h = rw suc-add (reach_next c left o t (omega arith))

pub begins_next : (c : List ℕ) (o : ℕ) → T (begins c o) → next c o < length c → T (begins c (next c o))
begins_next c o t h = reach_next c 0 o t h

-- and none begins before it
pub reach_within : (c : List ℕ) (left o : ℕ) → o < left → reach c left o ≡ false
unfolding reach
reach_within [] left o h = refl
reach_within (b ∷ c) zero o h = absurd (omega arith)
reach_within (b ∷ c) (suc left) zero h = refl
reach_within (b ∷ c) (suc left) (suc o) h = reach_within c left o (le_of_suc-le-suc h)

reach_between : (c : List ℕ) (left o j : ℕ) → T (reach c left o) → o < j → j < next c o → reach c left j ≡ false
unfolding reach
reach_between [] left o j t g h = refl
reach_between (b ∷ c) left o zero t g h = absurd (omega arith)
reach_between (b ∷ c) zero zero (suc j) t g h = reach_within c (rest b c) j (omega arith)
reach_between (b ∷ c) zero (suc o) (suc j) t g h = reach_between c (rest b c) o j t (omega arith) (omega arith)
reach_between (b ∷ c) (suc left) zero (suc j) t g h = absurd t
reach_between (b ∷ c) (suc left) (suc o) (suc j) t g h = reach_between c left o j t (omega arith) (omega arith)

pub begins_between : (c : List ℕ) (o j : ℕ) → T (begins c o) → o < j → j < next c o → begins c j ≡ false
begins_between c o j t g h = reach_between c 0 o j t g h

to_test : {c : List ℕ} {o : ℕ} → Begins c o → T (begins c o)
to_test {c} (at_zero h) = pass c 0 h
to_test {c} (at_next {o = o} b h) = begins_next c o (to_test b) h

-- the list from s on begins with b
module _ (c d : List ℕ) (s b : ℕ) (e : drop s c ≡ b ∷ d) where
  here_inside : s < length c
  here_inside = omega (arith, ap length e, length-drop s c)

  here_byte : byte c s ≡ b
  here_byte = let q = drop-cons c s 0 here_inside in cc

  here_rest : drop (suc s) c ≡ d
  here_rest = let q = drop-cons c s 0 here_inside in cc

-- `left` bytes behind s an instruction begins, if that is inside
from_test : (c d : List ℕ) (left s j : ℕ) → drop s c ≡ d → (s + left < length c → Begins c (s + left)) → T (reach d left j) → Begins c (s + j)
unfolding reach
from_test c [] left s j e p t = absurd t
from_test c (b ∷ d) zero s zero e p t = p (omega (arith, here_inside c d s b e))
from_test c (b ∷ d) zero s (suc j) e p t =
    let q : next c s ≡ suc s + rest b d = rw (here_byte c d s b e, here_rest c d s b e) (omega arith) in
    let k : s + zero ≡ s = omega arith in
    rw (add-suc, ← suc-add)
    (from_test c d (rest b d) (suc s) j (here_rest c d s b e) (λ h. rw q at (at_next (rw k at (p (omega (arith, here_inside c d s b e)))) (omega arith))) t)
from_test c (b ∷ d) (suc left) s zero e p t = absurd t
from_test c (b ∷ d) (suc left) s (suc j) e p t =
    rw (add-suc, ← suc-add) (from_test c d left (suc s) j (here_rest c d s b e) (λ h. rw (add-suc, ← suc-add) at (p (omega arith))) t)

pub begins_iff : (c : List ℕ) (o : ℕ) → T (begins c o) ↔ Begins c o
begins_iff c o = (λ t. rw zero-add at (from_test c c 0 0 o refl (λ h. at_zero (omega arith)) t), to_test)
