-- The pass over the rows with its stack of open records is the walk over the rlens.
-- Assumes nothing.
use Prim.Native.Nat.{ℕ, zero, suc, ◌+◌, ◌-◌, ◌*◌, ◌≤◌, ◌<◌}
use native.Mathlib.Omega.{arith}
use mathlib.Core.Path.{◌≡◌, refl, sym, ap, ◌∙◌}
use mathlib.Core.Bool.{Bool, true, false}
use mathlib.Core.List.{List, [], ◌∷◌, ◌++◌}
use lib.Dec.{eqb}
use lib.ListN.{length, set, replicate, length-set}
use lib.Seq.{get_or-set_same, get_or-set_other}
use borrow.Author.Tests.{ne_eqb, eqb-true, eqb-false, lt-ltb}
use Rattle.format.specs.Rows.{record_width}
use Rattle.format.specs.Tree.{Node, alone, under, nodes_from, nodes}
use Rattle.rite_parents.specs.Nodes.{rlen_in, rlens_in, node, node_in, nodes_in}
use Rattle.rite_parents.specs.declared.Open.{Open}
use Rattle.rite_parents.specs.Pass.{opened, open_at, pop_to, State, state, step_of, steps}

-- the visits that the open records still ask for, those of the record on top first
abbrev asks : List Open → ℕ → List Node
asks o zero = []
asks o (suc k) = replicate (open_at o k).left (node (suc k) (open_at o k).rec) ++ asks o k

-- what stands above them does not matter
asks_set : (o : List Open) (j : ℕ) (x : Open) (k : ℕ) → k ≤ j → asks (set o j x) k ≡ asks o k
asks_set o j x zero h = refl
asks_set o j x (suc k) h = rw (get_or-set_other o j k x (opened 0 0) (λ e. omega (arith, e)), asks_set o j x k (omega arith))

-- nor do open records that ask for nothing
asks_popped : (o : List Open) (k : ℕ) → asks o (pop_to o k) ≡ asks o k
unfolding pop_to
asks_popped o zero = refl
asks_popped o (suc k) = go (eqb (open_at o k).left 0) refl (asks_popped o k)
  where
    go : (b : Bool) → eqb (open_at o k).left 0 ≡ b → asks o (pop_to o k) ≡ asks o k → asks o (pop_to o (suc k)) ≡ asks o (suc k)
    go true e ih = let z : (open_at o k).left ≡ 0 = eqb-true (open_at o k).left 0 e in rw (e, z) ih
    go false e ih = rw e

-- the one that stays on top asks for a visit
popped_asks : (o : List Open) (height k : ℕ) → pop_to o height ≡ suc k → ¬ ((open_at o k).left ≡ 0)
unfolding pop_to
popped_asks o zero k e = absurd (omega (arith, e))
popped_asks o (suc h) k e = go (eqb (open_at o h).left 0) refl (popped_asks o h k)
  where
    go : (b : Bool) → eqb (open_at o h).left 0 ≡ b → (pop_to o h ≡ suc k → ¬ ((open_at o k).left ≡ 0)) → ¬ ((open_at o k).left ≡ 0)
    go true q ih = ih (rw q at e)
    go false q ih = let d : suc h ≡ suc k = rw q at e in let z : h ≡ k = omega arith in rw (← z) (eqb-false (open_at o h).left 0 q)

popped_below : (o : List Open) (height : ℕ) → pop_to o height ≤ height
unfolding pop_to
popped_below o zero = omega arith
popped_below o (suc h) = go (eqb (open_at o h).left 0) refl (popped_below o h)
  where
    go : (b : Bool) → eqb (open_at o h).left 0 ≡ b → pop_to o h ≤ h → pop_to o (suc h) ≤ suc h
    go true q ih = rw q (omega (arith, ih))
    go false q ih = rw q (omega arith)

-- a row's depth and parent are not among the rlens of the rows behind it
rlens_behind : (t : List ℕ) (i : ℕ) (v : Node) (j n : ℕ) → i < j → rlens_in (node_in t i v) j n ≡ rlens_in t j n
rlens_behind t i v j zero h = refl
rlens_behind t i v j (suc n) h =
    let at = j * record_width + 3 in
    let row = i * record_width in
    let parent = get_or-set_other (set t (row + 19) v.depth) (row + 20) at v.parent 0 (λ e. omega (arith, e)) in
    let depth = get_or-set_other t (row + 19) at v.depth 0 (λ e. omega (arith, e)) in
    let e : rlen_in (node_in t i v) j ≡ rlen_in t j = parent ∙ depth in
    rw (e, rlens_behind t i v (j + 1) n (omega arith))

-- what the rows from i on become, by the walk
abbrev Rest : ℕ → ℕ → State → Type 0
Rest n i s = (steps n i s).table ≡ nodes_in s.table i (nodes_from (rlens_in s.table i n) (asks s.stack s.height) i)

-- a record that nobody asks for, and one that the record on top asks for
module _ (n i : ℕ) (t : List ℕ) (o : List Open) (height : ℕ) (some : 0 < i) (low : height ≤ i) (room : i < length o)
    (ih : (s : State) → s.height ≤ i + 1 → length s.stack ≡ length o → Rest n (i + 1) s) where
  abbrev here : ℕ
  here = rlen_in t i

  abbrev later : List ℕ
  later = rlens_in t (i + 1) n

  abbrev told : List Node → List ℕ
  told vs = nodes_in t i (nodes_from (here ∷ later) vs i)

  by_none : pop_to o height ≡ 0 → Rest (suc n) i (state t o height)
  unfolding steps step_of nodes_from
  by_none e =
      let t' : List ℕ = node_in t i alone in
      let step : step_of i (state t o height) ≡ state t' o 0 = rw (e, ne_eqb i 0 (λ z. omega (arith, z))) in
      let a : asks o height ≡ [] = sym (asks_popped o height) ∙ ap (asks o) e in
      ap (λ (s : State). (steps n (i + 1) s).table) step
      ∙ ih (state t' o 0) (omega arith) refl
      ∙ ap (λ (x : List ℕ). nodes_in t' (i + 1) (nodes_from x [] (i + 1))) (rlens_behind t i alone (i + 1) n (omega arith))
      ∙ ap told (sym a)

  by_top : (k m : ℕ) → pop_to o height ≡ suc k → (open_at o k).left ≡ suc m → Rest (suc n) i (state t o height)
  unfolding steps step_of nodes_from
  by_top k m e z =
      let b : suc k ≤ height = rw e at (popped_below o height) in
      let v : Node = node (suc k) (open_at o k).rec in
      let t' : List ℕ = node_in t i v in
      let x : Open = opened (open_at o k).rec m in
      let y : Open = opened i here in
      let o' : List Open = set (set o k x) (suc k) y in
      let one : suc k - 1 ≡ k = omega arith in
      let less : suc m - 1 ≡ m = omega arith in
      let two : suc k + 1 ≡ suc (suc k) = omega arith in
      let step : step_of i (state t o height) ≡ state t' o' (suc k + 1) =
      rw (e, ne_eqb i 0 (λ z. omega (arith, z)), lt-ltb 0 (suc k) (omega arith), ne_eqb (suc k) 0 (λ z. omega (arith, z)), one, z, less)
      in
      let a : asks o height ≡ v ∷ (replicate m v ++ asks o k) = sym (asks_popped o height) ∙ ap (asks o) e ∙ rw z in
      let top : open_at o' (suc k) ≡ y = get_or-set_same (set o k x) (suc k) y (opened 0 0) (rw length-set (omega arith)) in
      let second : asks o' (suc k) ≡ replicate m v ++ asks o k =
      asks_set (set o k x) (suc k) y (suc k) (omega arith)
      ∙ rw (get_or-set_same o k x (opened 0 0) (omega arith), asks_set o k x k (omega arith))
      in
      let all : asks o' (suc k + 1) ≡ replicate here (under i v) ++ (replicate m v ++ asks o k) = ap (asks o') two ∙ rw (top, second) in
      ap (λ (s : State). (steps n (i + 1) s).table) step
      ∙ ih (state t' o' (suc k + 1)) (omega arith) (length-set (set o k x) (suc k) y ∙ length-set o k x)
      ∙ ap (λ (x : List ℕ). nodes_in t' (i + 1) (nodes_from x (asks o' (suc k + 1)) (i + 1))) (rlens_behind t i v (i + 1) n (omega arith))
      ∙ ap (λ (vs : List Node). nodes_in t' (i + 1) (nodes_from later vs (i + 1))) all
      ∙ ap told (sym a)

up : (x : ℕ) → ¬ (x ≡ 0) → x ≡ suc (x - 1)
up zero z = absurd (z refl)
up (suc x) z = omega arith

steps_from : (n i : ℕ) (s : State) → 0 < i → s.height ≤ i → i + n ≤ length s.stack → Rest n i s
unfolding steps nodes_from
steps_from zero i s h low a = refl
steps_from (suc n) i s h low a = go (λ s' p q. steps_from n (i + 1) s' (omega arith) p (omega (arith, q))) (pop_to s.stack s.height) refl
  where
    Next : Type 0
    Next = (s' : State) → s'.height ≤ i + 1 → length s'.stack ≡ length s.stack → Rest n (i + 1) s'

    go : Next → (top : ℕ) → pop_to s.stack s.height ≡ top → Rest (suc n) i s
    go next zero e = by_none n i s.table s.stack s.height h low (omega arith) next e
    go next (suc k) e =
        let z = popped_asks s.stack s.height k e in
        by_top n i s.table s.stack s.height h low (omega arith) next k ((open_at s.stack k).left - 1) e (up (open_at s.stack k).left z)

-- after the pass every row says its record's node
pub steps_are : (n : ℕ) (t : List ℕ) (o : List Open) → n ≤ length o → (steps n 0 (state t o 0)).table ≡ nodes_in t 0 (nodes (rlens_in t 0 n))
unfolding steps nodes_from step_of pop_to
steps_are zero t o a = refl
steps_are (suc n) t o a =
    let t' : List ℕ = node_in t 0 alone in
    let here : ℕ = rlen_in t 0 in
    let o' : List Open = set o 0 (opened 0 here) in
    let top : open_at o' 0 ≡ opened 0 here = get_or-set_same o 0 (opened 0 here) (opened 0 0) (omega arith) in
    let all : asks o' (0 + 1) ≡ replicate here (under 0 alone) ++ [] = rw top in
    steps_from n (0 + 1) (state t' o' (0 + 1)) (omega arith) (omega arith) (rw length-set (omega arith))
    ∙ ap (λ (x : List ℕ). nodes_in t' (0 + 1) (nodes_from x (asks o' (0 + 1)) (0 + 1))) (rlens_behind t 0 alone (0 + 1) n (omega arith))
    ∙ ap (λ (vs : List Node). nodes_in t' (0 + 1) (nodes_from (rlens_in t (0 + 1) n) vs (0 + 1))) all
