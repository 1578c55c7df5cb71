-- The choice that stands at a place of the choice bytes.
-- Assumes nothing.
use Prim.Native.Nat.{ℕ, ◌+◌, ◌-◌, ◌*◌, ◌≤◌, ◌<◌}
use native.Mathlib.Omega.{arith}
use mathlib.Core.Path.{◌≡◌, ◌∙◌}
use mathlib.Core.Bool.{false}
use mathlib.Core.List.{List}
use lib.Dec.{eqb}
use lib.ListN.{length, get_or, drop}
use Rattle.format.specs.Bytes.{Answer, refused}
use Rattle.format.specs.Run as format
use Rattle.runs.proofs.Choices.{read_kind, read_caught, read_cut, read_above}
use Rattle.moves.specs.declared.Choice.{Choice}
use Rattle.moves.specs.declared.Choice.TheVariants.{Caught}
use Rattle.moves.specs.Answers.{choice_of, NextIs}

module _ (bs : List ℕ) (i : ℕ) (h : i < length bs) where
  -- of a kind b that has no body
  pub kind_next : (c : Choice) (b : ℕ) → get_or bs i 0 ≡ b → eqb b 3 ≡ false
      → ((r : Answer (List format.Choice)) → format.by_kind b r ≡ format.put (choice_of c) r) → NextIs bs i c (i + 1)
  kind_next c b e q w =
      record { later = omega arith; inside = omega arith; so = read_kind bs i h b e q ∙ w (format.choices_from format.kind (drop (i + 1) bs)) }

  pub kind_bad : 5 ≤ get_or bs i 0 → format.choices_from format.kind (drop i bs) ≡ refused 21
  kind_bad l = read_above bs i h l

  pub caught_bad : length bs - i < 3 → get_or bs i 0 ≡ 3 → format.choices_from format.kind (drop i bs) ≡ refused 21
  caught_bad l e = read_cut bs i h (omega arith) e

  -- x, y: the body's bytes
  pub caught_next : 3 ≤ length bs - i → get_or bs i 0 ≡ 3 → (x y : ℕ) → x ≡ get_or bs (i + 1) 0 → y ≡ get_or bs (i + 2) 0
      → NextIs bs i (Caught (x * 256 + y)) (i + 3)
  caught_next l e x y ex ey = record { later = omega arith; inside = omega arith; so = read_caught bs i (omega arith) e ∙ rw (ex, ey) }
