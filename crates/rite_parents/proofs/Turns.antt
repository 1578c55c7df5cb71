-- The turns of the loop over the rows.
-- Assumes nothing.
use Prim.Native.Nat.{ℕ, suc, ◌+◌, ◌-◌, ◌<◌, ◌≤◌}
use native.Mathlib.Omega.{arith}
use mathlib.Core.Path.{◌≡◌, sym, ap, ◌∙◌}
use Rattle.rite_parents.specs.Pass.{State, step_of, steps}

-- the rows from row i on
pub rows_go : (n i : ℕ) (s s₁ s₀ : State) → i < n → s₁ ≡ step_of i s → steps (n - i) i s ≡ s₀ → steps (n - (i + 1)) (i + 1) s₁ ≡ s₀
unfolding steps
rows_go n i s s₁ s₀ h q e =
    let d : n - i ≡ suc (n - (i + 1)) = omega arith in
    ap (steps (n - (i + 1)) (i + 1)) q ∙ ap (λ (k : ℕ). steps k i s) (sym d) ∙ e

pub rows_end : (n i : ℕ) (s s₀ : State) → n ≤ i → steps (n - i) i s ≡ s₀ → s ≡ s₀
unfolding steps
rows_end n i s s₀ h e = let d : n - i ≡ 0 = omega arith in ap (λ (k : ℕ). steps k i s) (sym d) ∙ e
