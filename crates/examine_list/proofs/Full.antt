-- A list in full says what the list says; the loop that writes it.
-- Assumes nothing.
use Prim.Native.Nat.{ℕ, zero, suc, ◌≤◌, ◌<◌}
use native.Mathlib.Omega.{arith}
use mathlib.Core.Path.{◌≡◌, refl, sym, ap, ◌∙◌}
use mathlib.Core.Bool.{Bool, true, false, ◌&&◌}
use mathlib.Core.List.{List}
use lib.Dec.{ltb}
use lib.ListN.{length, get_or, replicate, length-replicate, get_or-map, get_or-eq_default}
use borrow.Author.Tests.{lt-ltb, ltb-true, ltb-false}
use Rattle.format.specs.Insn.{known}
use Rattle.format.specs.Permitted.{permits}
use Rattle.examine_list.specs.Full.{said, bytes_of, Blank, Written, Told}

pub blank : Blank (replicate 256 false)
blank = record { bytes = length-replicate {A = Bool} 256 false; noes = noes 256 }
  where
    noes : (n b : ℕ) → get_or (replicate n false) b false ≡ false
    noes zero b = refl
    noes (suc n) zero = refl
    noes (suc n) (suc b) = noes n b

-- A list in full is in full itself.
module _ {q : List ℕ} {w : List Bool} (f : Written q w) where
  said_at : (b : ℕ) → ltb 0 (get_or (bytes_of w) b 0) ≡ get_or w b false
  said_at b = ap (ltb 0) (get_or-map said w b false) ∙ go (get_or w b false)
    where
      go : (x : Bool) → ltb 0 (said x) ≡ x
      go true = refl
      go false = refl

  pub written_permits : (b : ℕ) → permits (bytes_of w) b ≡ permits q b
  unfolding permits
  written_permits b = rw (said_at b, f.told b) (go (known b) (ltb 0 (get_or q b 0)))
    where
      go : (x y : Bool) → (x && (x && y)) ≡ (x && y)
      go true y = refl
      go false y = refl

  pub written_told : Told w
  written_told = record { bytes = f.bytes; told = λ b. f.told b ∙ sym (written_permits b) }

-- The loop, at the byte i.
pub record Writing (q : List ℕ) (w : List Bool) (i : ℕ) : Type 0 where
  pub bytes : length w ≡ 256
  pub upto : (b : ℕ) → b < i → get_or w b false ≡ ltb 0 (get_or q b 0)
  pub clear : (b : ℕ) → i ≤ b → get_or w b false ≡ false

-- and at its end: all that is read is written
pub writing_end : {q : List ℕ} {w : List Bool} {i : ℕ} → i ≤ 119 → (i < 119 → length q ≤ i) → Writing q w i → Written q w
unfolding permits
writing_end {q} {w} {i} l m g = record { bytes = g.bytes; told = λ b. go b (ltb b i) refl }
  where
    none : (b : ℕ) → i ≤ b → permits q b ≡ false
    none b h = at (ltb b 119) refl
      where
        no : (x : Bool) → (x && false) ≡ false
        no true = refl
        no false = refl

        at : (x : Bool) → ltb b 119 ≡ x → (ltb b 119 && ltb 0 (get_or q b 0)) ≡ false
        at true y = let z = ltb-true b 119 y in rw (get_or-eq_default q 0 {n = b} (omega arith)) (no (ltb b 119))
        at false y = rw y

    go : (b : ℕ) (x : Bool) → ltb b i ≡ x → get_or w b false ≡ permits q b
    go b true y = let h = ltb-true b i y in g.upto b h ∙ rw (lt-ltb b 119 (omega arith))
    go b false y = let h = ltb-false b i y in g.clear b h ∙ sym (none b h)
