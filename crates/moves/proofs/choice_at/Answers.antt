-- `moves::choice_at` meets its contract.
-- Assumes nothing.
use native.Mathlib.Omega.{arith}
use mathlib.Core.Path.{refl}
use Rattle.moves.specs.declared.Choice.TheVariants.{GoOn, Jump, Enter, Leave}
use Rattle.moves.proofs.Choices.{kind_next, kind_bad}
use Rattle.moves.proofs.choice_at.Goals as goal
use Rattle.moves.proofs.choice_at.Goals.{in-0, in-1, in-2, in-4}

pub returns-in_default : goal.returns-in_default
returns-in_default c = let a = c.args in (kind_bad a.choices.now a.i c.requires (omega arith), refl)

pub returns : goal.returns
returns c =
    let a = c.args in
    let bs = a.choices.now in
    elim c.match-choices-i.branch [
      | in-0 w ↦ rw w.choice-is (kind_next bs a.i c.requires GoOn 0 w.in-0.is refl (λ r. refl))
      | in-1 w ↦ rw w.choice-is (kind_next bs a.i c.requires Jump 1 w.in-1.is refl (λ r. refl))
      | in-2 w ↦ rw w.choice-is (kind_next bs a.i c.requires Enter 2 w.in-2.is refl (λ r. refl))
      | in-4 w ↦ rw w.choice-is (kind_next bs a.i c.requires Leave 4 w.in-4.is refl (λ r. refl))
    ]
