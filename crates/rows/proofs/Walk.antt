-- Laws of the walk: visits one after another, one visit, the children in turn; and that the walk which calls itself is the count of pending visits.
-- Assumes nothing.
use Prim.Native.Nat.{ℕ, zero, suc, ◌+◌, ◌-◌, ◌<◌, ◌≤◌}
use native.Mathlib.Nat.{suc-add, zero-add, add_assoc, add-zero}
use native.Mathlib.Omega.{arith}
use mathlib.Core.Path.{◌≡◌, refl, sym, ap, ◌∙◌}
use mathlib.Core.Bool.{Bool, true, false, cond}
use lib.Dec.{leb}
use borrow.Author.Tests.{leb-true, leb-false}
use Rattle.rows.specs.Walk.{Run, go, stop, bind, walk, repeat, visit}

bind_bind : {S T U W : Type 0} (o : Run S T) (f : S → Run U T) (g : U → Run W T) → bind (bind o f) g ≡ bind o (λ x. bind (f x) g)
bind_bind (go s) f g = refl
bind_bind (stop c t) f g = refl

-- to go on alike, two continuations agree where the first reader goes on
bind_same : {S T U : Type 0} (o : Run S T) (f g : S → Run U T) → ((x : S) → o ≡ go x → f x ≡ g x) → bind o f ≡ bind o g
bind_same (go s) f g h = h s refl
bind_same (stop c t) f g h = refl

pub same_go : {S T : Type 0} (s s' : S) → ◌≡◌ {A = Run S T} (go s) (go s') → s ≡ s'
same_go s s' e = cc

pub stop_go : {S T : Type 0} (c : ℕ) (t : T) (s : S) → ◌≡◌ {A = Run S T} (stop c t) (go s) → ⊥
stop_go c t s e = let z : ◌≡◌ {A = ℕ} 0 1 = cc in omega arith

module _ {S T : Type 0} (step : S → Run S T) (kids : S → ℕ) (spent : S → Bool) (rec : S → ℕ)
    (next : (s s' : S) → step s ≡ go s' → rec s' ≡ rec s + 1) (count : ℕ) where
  pub spent_walk : (l p : ℕ) (s : S) → spent s ≡ true → walk step kids spent l p s ≡ go s
  unfolding walk
  spent_walk zero p s h = refl
  spent_walk (suc l) zero s h = refl
  spent_walk (suc l) (suc p) s h = rw h

  -- visits are made one after the other: of a + b visits the last b start where the first a end
  pub walk_add : (l a b : ℕ) (s : S) → l ≡ count - rec s
      → walk step kids spent l (a + b) s ≡ bind (walk step kids spent l a s) (λ s'. walk step kids spent (count - rec s') b s')
  unfolding walk
  walk_add zero a b s e = rw (← e)
  walk_add (suc l) zero b s e = rw (zero-add, ← e)
  walk_add (suc l) (suc a) b s e =
      rw suc-add (by_spent (spent s) refl (λ x ex. walk_add l (kids s + a) b x (let r = next s x ex in omega arith)))
    where
      by_spent : (q : Bool) → spent s ≡ q
          → ((x : S) → step s ≡ go x → walk step kids spent l (kids s + a + b) x ≡ bind (walk step kids spent l (kids s + a) x) (λ s'. walk step kids spent (count - rec s') b s'))
          → cond q (go s) (bind (step s) (walk step kids spent l (kids s + (a + b))))
          ≡ bind (cond q (go s) (bind (step s) (walk step kids spent l (kids s + a)))) (λ s'. walk step kids spent (count - rec s') b s')
      by_spent true h ih = sym (spent_walk (count - rec s) b s h)
      by_spent false h ih = rw (← add_assoc (kids s) a b) (bind_same (step s) _ _ ih ∙ sym (bind_bind (step s) _ _))

  -- where a walk over `l` records goes on, the next record is not before the one it started at, nor more than l behind it
  pub walk_rec : (l p : ℕ) (s s' : S) → walk step kids spent l p s ≡ go s' → (rec s ≤ rec s') × (rec s' ≤ rec s + l)
  unfolding walk
  walk_rec zero p s s' e = let r : rec s ≡ rec s' = ap rec (same_go s s' e) in (omega arith, omega arith)
  walk_rec (suc l) zero s s' e = let r : rec s ≡ rec s' = ap rec (same_go s s' e) in (omega arith, omega arith)
  walk_rec (suc l) (suc p) s s' e = by_spent (spent s) (step s) (next s) (λ x. walk_rec l (kids s + p) x s') e
    where
      by_spent : (q : Bool) (o : Run S T) → ((x : S) → o ≡ go x → rec x ≡ rec s + 1)
          → ((x : S) → walk step kids spent l (kids s + p) x ≡ go s' → (rec x ≤ rec s') × (rec s' ≤ rec x + l))
          → cond q (go s) (bind o (walk step kids spent l (kids s + p))) ≡ go s' → (rec s ≤ rec s') × (rec s' ≤ rec s + suc l)
      by_spent true o n ih h = let r : rec s ≡ rec s' = ap rec (same_go s s' h) in (omega arith, omega arith)
      by_spent false (go x) n ih h = let r = n x refl in let m = ih x h in (omega arith, omega arith)
      by_spent false (stop c t) n ih h = absurd (stop_go c t s' h)

  -- a visit of a record that is there: o is what its step answers
  pub walk_one : (s : S) (o : Run S T) → rec s < count → spent s ≡ false → o ≡ step s
      → walk step kids spent (count - rec s) 1 s ≡ bind o (λ s'. walk step kids spent (count - rec s') (kids s) s')
  unfolding walk
  walk_one s o h q e =
      let k : count - rec s ≡ suc (count - (rec s + 1)) = omega arith in
      rw (k, q, add-zero, ← e) (bind_same o _ _ (λ x ex. rw (next s x (sym e ∙ ex))))

  -- a record's own step is made, and went on with s': what is left of its visit is the visits of its children
  pub walk_began : (s s' : S) → rec s < count → spent s ≡ false → go s' ≡ step s
      → (rec s' ≡ rec s + 1) × (walk step kids spent (count - rec s) 1 s ≡ walk step kids spent (count - rec s') (kids s) s')
  walk_began s s' h q e = (next s s' (sym e), walk_one s (go s') h q e)

  -- visits past the last record
  pub walk_past : (p : ℕ) (s : S) → count ≤ rec s → walk step kids spent (count - rec s) p s ≡ go s
  unfolding walk
  walk_past p s h = let k : count - rec s ≡ 0 = omega arith in rw k

  -- the visit of child k of n: o is what it answers
  pub walk_child : (n k : ℕ) (s : S) (o : Run S T) → k < n → o ≡ walk step kids spent (count - rec s) 1 s
      → walk step kids spent (count - rec s) (n - k) s ≡ bind o (λ s'. walk step kids spent (count - rec s') (n - (k + 1)) s')
  walk_child n k s o h e = let j : n - k ≡ 1 + (n - (k + 1)) = omega arith in rw (j, e) (walk_add (count - rec s) 1 (n - (k + 1)) s refl)

  pub walk_done : (l n k : ℕ) (s : S) → n ≤ k → walk step kids spent l (n - k) s ≡ go s
  unfolding walk
  walk_done zero n k s h = refl
  walk_done (suc l) n k s h = let j : n - k ≡ 0 = omega arith in rw j

  walk_zero : (l : ℕ) (s : S) → walk step kids spent l 0 s ≡ go s
  unfolding walk
  walk_zero zero s = refl
  walk_zero (suc l) s = refl

  -- the children of a record, visited in turn
  repeat_walk : (deep : ℕ) → ((s : S) → count - rec s < deep → visit step kids spent rec count deep s ≡ walk step kids spent (count - rec s) 1 s)
      → (k : ℕ) (s : S) → count - rec s < deep → repeat (visit step kids spent rec count deep) k s ≡ walk step kids spent (count - rec s) k s
  unfolding repeat
  repeat_walk deep ih zero s h = sym (walk_zero (count - rec s) s)
  repeat_walk deep ih (suc k) s h =
      let j : suc k ≡ 1 + k = omega arith in
      rw (ih s h)
      (bind_same (walk step kids spent (count - rec s) 1 s) _ (λ s'. walk step kids spent (count - rec s') k s')
      (λ x ex. let r = (walk_rec (count - rec s) 1 s x ex).0 in repeat_walk deep ih k x (omega arith))
      ∙ rw j (sym (walk_add (count - rec s) 1 k s refl)))

  -- the recursion and the count of pending visits are the same walk
  pub visit_walk : (deep : ℕ) (s : S) → count - rec s < deep → visit step kids spent rec count deep s ≡ walk step kids spent (count - rec s) 1 s
  unfolding visit
  visit_walk zero s h = absurd (omega arith)
  visit_walk (suc deep) s h = by_tests (leb count (rec s)) refl (spent s) refl (repeat_walk deep (visit_walk deep))
    where
      by_tests : (p : Bool) → leb count (rec s) ≡ p → (q : Bool) → spent s ≡ q
          → ((k : ℕ) (x : S) → count - rec x < deep → repeat (visit step kids spent rec count deep) k x ≡ walk step kids spent (count - rec x) k x)
          → cond p (go s) (cond q (go s) (bind (step s) (repeat (visit step kids spent rec count deep) (kids s)))) ≡ walk step kids spent (count - rec s) 1 s
      by_tests true e q f ih = sym (walk_past 1 s (leb-true count (rec s) e))
      by_tests false e true f ih = sym (spent_walk (count - rec s) 1 s f)
      by_tests false e false f ih =
          let l : rec s < count = leb-false count (rec s) e in
          bind_same (step s) _ _ (λ x ex. let r = next s x ex in ih (kids s) x (omega arith)) ∙ sym (walk_one s (step s) l f refl)
