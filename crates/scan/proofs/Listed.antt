-- What a list says of an instruction, by its opcode and by its prefix.
-- Assumes nothing.
use Prim.Native.Nat.{ℕ, ◌+◌}
use mathlib.Core.Path.{◌≡◌, refl, ◌∙◌}
use mathlib.Core.Bool.{Bool, true, false, ◌&&◌}
use mathlib.Core.List.{List}
use Rattle.format.specs.Bytes.{byte}
use Rattle.format.specs.Insn.{prefix}
use Rattle.format.specs.Permitted.{permits, permitted_at}
use Rattle.runs.proofs.Next.{opcode_alone, opcode_behind}

twice : (x : Bool) → (x && x) ≡ x
twice true = refl
twice false = refl

module _ (q c : List ℕ) (i : ℕ) where
  pub alone_is : prefix (byte c i) ≡ false → permits q (byte c i) ≡ permitted_at q c i
  unfolding permitted_at
  alone_is p = rw (opcode_alone c i p, twice)

  pub prefixed_is : prefix (byte c i) ≡ true → (permits q (byte c i) && permits q (byte c (i + 1))) ≡ permitted_at q c i
  unfolding permitted_at
  prefixed_is p = rw (opcode_behind c i p)

  -- with the answer so far; x, y: what the list says
  module _ (all : Bool) {x : Bool} (e : x ≡ permits q (byte c i)) where
    pub alone_too : prefix (byte c i) ≡ false → (all && x) ≡ (all && permitted_at q c i)
    alone_too p = rw (e, alone_is p)

    pub prefixed_too : {y : Bool} → prefix (byte c i) ≡ true → y ≡ permits q (byte c (i + 1)) → ((all && x) && y) ≡ (all && permitted_at q c i)
    prefixed_too {y} p g = go all ∙ rw (e, g, prefixed_is p)
      where
        go : (a : Bool) → ((a && x) && y) ≡ (a && (x && y))
        go true = refl
        go false = refl
