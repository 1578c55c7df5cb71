-- Paper 02, a): "Blocks that know their parent." What the walk over the rlens gives each record, for every list of rlens; and the parents of a
-- run's frames.
-- Assumes nothing.
use Prim.Native.Nat.{ℕ, zero, suc, ◌+◌, ◌-◌, ◌≤◌, ◌<◌}
use native.Mathlib.Nat.{le_refl, le_of_suc-le-suc, add-zero, zero-add, suc-add}
use native.Mathlib.Numerals.{add-one}
use native.Mathlib.Omega.{arith}
use mathlib.Core.Path.{◌≡◌, refl, sym, ap, ◌∙◌}
use mathlib.Core.Bool.{Bool, true, false}
use mathlib.Core.List.{List, [], ◌∷◌, ◌++◌, append_assoc}
use lib.Dec.{T, ltb}
use lib.ListN.{length, get_or, drop, replicate, length-append, length-drop, length-map, length-replicate, replicate-append-replicate, get_or-map}
use lib.Seq.{drop-drop, get_or-drop}
use borrow.Author.Tests.{ltb-true, ltb-false}
use Rattle.format.specs.Tree.{whole, span, child_of, Node, alone, under, nodes_from, nodes}
use Rattle.format.specs.Pattern.{Record, Pattern, rec_at, blank, rlens}
use Rattle.format.specs.Run.{Choice, Frame, frame, Move, gone, to, into, move, applied, one_step, run_from, start, run}
use Rattle.runs.specs.Stack.{Stack}
use Rattle.runs.proofs.Exact.{GoodFile}
use Rattle.runs.proofs.Safe.{Safe, move_safe, keeps_step}
use Rattle.runs.proofs.Frame.{run_stack}
use Rattle.runs.proofs.Tree.{span_whole, span_zero, kid_closed, kid_inside}

-- record i's depth and parent
abbrev pub node_at : List ℕ → ℕ → Node
node_at l i = get_or (nodes l) i alone

-- "Record 0 and records that the walk never reaches have parent 65535 and depth 0.": `first_alone`, `unreached_alone`
pub first_alone : (l : List ℕ) → node_at l 0 ≡ alone
unfolding nodes_from
first_alone [] = refl
first_alone (r ∷ rs) = refl

-- the visits after record i's: its children's and those that were pending
after_length : (r i : ℕ) (v : Node) (vs : List Node) → length (replicate r (under i v) ++ vs) ≡ length vs + r
after_length r i v vs = rw (length-append, length-replicate) (omega arith)

unreached_from : (rs : List ℕ) (vs : List Node) (i j : ℕ) → span (length vs) rs ≤ j → get_or (nodes_from rs vs i) j alone ≡ alone
unfolding nodes_from span
unreached_from [] vs i j h = refl
unreached_from (r ∷ rs) [] i zero h = refl
unreached_from (r ∷ rs) [] i (suc j) h = unreached_from rs [] (i + 1) j (rw span_zero (omega arith))
unreached_from (r ∷ rs) (v ∷ vs) i zero h = absurd (omega arith)
unreached_from (r ∷ rs) (v ∷ vs) i (suc j) h =
    unreached_from rs (replicate r (under i v) ++ vs) (i + 1) j (rw (after_length r i v vs) (le_of_suc-le-suc h))

pub unreached_alone : (l : List ℕ) (i : ℕ) → span 1 l ≤ i → node_at l i ≡ alone
unreached_alone l i h = unreached_from l (alone ∷ []) 0 i h

-- record i is a child of record p: the one with this number, which is below p's rlen
pub record ChildOf (l : List ℕ) (p i : ℕ) : Type 0 where
  pub number : ℕ
  pub below : number < get_or l p 0
  pub is : child_of l p number ≡ i

-- v is the node that record i is due: i is a child of v's parent, and one deeper
abbrev Due : List ℕ → ℕ → Node → Type 0
Due l i v = ChildOf l v.parent i × (v.depth ≡ suc (node_at l v.parent).depth)

-- the visits that are still to be made once the walk is at record i, and q others before them: each is due where the trees of those before it end
abbrev AllDue : List ℕ → ℕ → ℕ → List Node → Type 0
AllDue l i q [] = Unit {0}
AllDue l i q (v ∷ vs) = Due l (i + span q (drop i l)) v × AllDue l i (suc q) vs

-- record i, with the records rs behind it
module _ (l : List ℕ) (i r : ℕ) (rs : List ℕ) (e : drop i l ≡ r ∷ rs) where
  behind : drop (i + 1) l ≡ rs
  behind = sym (drop-drop 1 i l) ∙ ap (drop 1) e

  rlen_is : get_or l i 0 ≡ r
  rlen_is = rw (add-zero i, e) at (sym (get_or-drop i l 0 0))

  -- the pending visits, once record i is visited
  later : (q : ℕ) (vs : List Node) → AllDue l i (suc q) vs → AllDue l (i + 1) (q + r) vs
  unfolding span
  later q [] g = tt
  later q (v ∷ vs) g =
      let place : i + span (suc q) (drop i l) ≡ i + 1 + span (q + r) (drop (i + 1) l) = rw (e, behind) (omega arith) in
      (rw place at g.0, rw (suc-add q r) at (later (suc q) vs g.1))

  -- and those of its children before them
  children : (v : Node) → node_at l i ≡ v → (vs : List Node) → AllDue l (i + 1) r vs → (n q : ℕ) → q + n ≡ r → AllDue l (i + 1) q (replicate n (under i v) ++ vs)
  children v here vs g zero q h = let k : q ≡ r = omega arith in rw k g
  children v here vs g (suc n) q h =
      let k : ChildOf l i (i + 1 + span q (drop (i + 1) l)) =
      record { number = q; below = omega (arith, rlen_is); is = rw (kid_closed l i q, add-one i) } in
      ((k, rw here), children v here vs g n (suc q) (omega arith))

-- so the node of any record that is reached is due to it
module _ (l : List ℕ) where
  due_from : (rs : List ℕ) (vs : List Node) (i : ℕ) → drop i l ≡ rs → drop i (nodes l) ≡ nodes_from rs vs i → AllDue l i 0 vs
      → (j : ℕ) → j < span (length vs) rs → Due l (i + j) (get_or (nodes_from rs vs i) j alone)
  unfolding nodes_from span
  due_from [] [] i e a g j h = absurd (omega arith)
  due_from [] (v ∷ vs) i e a g j h = absurd (omega arith)
  due_from (r ∷ rs) [] i e a g j h = absurd (omega arith)
  due_from (r ∷ rs) (v ∷ vs) i e a g zero h = rw span_zero at g.0
  due_from (r ∷ rs) (v ∷ vs) i e a g (suc j) h =
      let here : node_at l i ≡ v = rw (add-zero i, a) at (sym (get_or-drop i (nodes l) 0 alone)) in
      let k : i + 1 + j ≡ i + suc j = omega arith in
      let n : j < span (length (replicate r (under i v) ++ vs)) rs = rw (after_length r i v vs) (le_of_suc-le-suc h) in
      rw k at (due_from rs (replicate r (under i v) ++ vs) (i + 1) (behind l i r rs e) (sym (drop-drop 1 i (nodes l)) ∙ ap (drop 1) a)
      (children l i r rs e v here vs (rw zero-add at (later l i r rs e 0 vs g.1)) r 0 (omega arith)) j n)

reached_due : (l : List ℕ) (i : ℕ) → 0 < i → i < span 1 l → Due l i (node_at l i)
unfolding nodes_from span
reached_due [] i p h = absurd (omega arith)
reached_due (r ∷ rs) zero p h = absurd (omega arith)
reached_due (r ∷ rs) (suc j) p h =
    let l = r ∷ rs in
    let vs = replicate r (under 0 alone) ++ [] in
    let k : 0 + 1 + j ≡ suc j = omega arith in
    let n : j < span (length vs) rs = rw (after_length r 0 alone []) (le_of_suc-le-suc h) in
    rw k at (due_from l rs vs (0 + 1) refl refl (children l 0 r rs refl alone refl [] tt r 0 (omega arith)) j n)

-- a child stands behind its parent
pub child_behind : (l : List ℕ) (p i : ℕ) → ChildOf l p i → p < i
child_behind l p i x = omega (arith, kid_closed l p x.number, x.is)

-- Record i has a parent, which the walk reaches: i is a child of it, and its "index and depth are above its parent's, the depth by one".
pub record HasParent (l : List ℕ) (i : ℕ) : Type 0 where
  pub child : ChildOf l (node_at l i).parent i
  pub reached : (node_at l i).parent < span 1 l
  pub index : (node_at l i).parent < i
  pub depth : (node_at l i).depth ≡ suc (node_at l (node_at l i).parent).depth

-- so does any record that the walk reaches but the first, in any tree
pub reached_parent : (l : List ℕ) (i : ℕ) → 0 < i → i < span 1 l → HasParent l i
reached_parent l i p h =
    let d = reached_due l i p h in
    let b = child_behind l (node_at l i).parent i d.0 in
    record { child = d.0; reached = omega arith; index = b; depth = d.1 }

-- "In a whole tree any other record's index and depth are above its parent's, the depth by one": there the walk reaches every record
pub whole_parent : (l : List ℕ) → T (whole l) → (i : ℕ) → 0 < i → i < length l → HasParent l i
whole_parent l t i p h = reached_parent l i p (rw (span_whole 1 l t) h)

-- no record is deeper than there are records before it
depth_step : (l : List ℕ) (n i : ℕ) → ((j : ℕ) → j ≤ n → (node_at l j).depth ≤ j) → i ≤ suc n → (b : Bool) → ltb i (span 1 l) ≡ b → (node_at l i).depth ≤ i
depth_step l n zero ih h b e = rw (first_alone l) (omega arith)
depth_step l n (suc i) ih h true e =
    let x = reached_parent l (suc i) (omega arith) (ltb-true (suc i) (span 1 l) e) in
    omega (arith, x.depth, x.index, ih (node_at l (suc i)).parent (omega (arith, x.index)))
depth_step l n (suc i) ih h false e = rw (unreached_alone l (suc i) (ltb-false (suc i) (span 1 l) e)) (omega arith)

depth_within : (l : List ℕ) (n i : ℕ) → i ≤ n → (node_at l i).depth ≤ i
depth_within l zero i h = let z : i ≡ 0 = omega arith in rw (z, first_alone l) (omega arith)
depth_within l (suc n) i h = depth_step l n i (depth_within l n) h (ltb i (span 1 l)) refl

pub depth_most : (l : List ℕ) (i : ℕ) → (node_at l i).depth ≤ i
depth_most l i = depth_within l i i (le_refl i)

-- once the trees of the visits us are walked, those of vs are
past : (rs : List ℕ) (us vs : List Node) (i : ℕ)
    → drop (span (length us) rs) (nodes_from rs (us ++ vs) i) ≡ nodes_from (drop (span (length us) rs) rs) vs (i + span (length us) rs)
unfolding nodes_from span
past [] [] vs i = refl
past [] (u ∷ us) vs i = refl
past (r ∷ rs) [] vs i = rw add-zero
past (r ∷ rs) (u ∷ us) vs i =
    let k : i + 1 + span (length us + r) rs ≡ i + suc (span (length us + r) rs) = omega arith in
    let n = after_length r i u us in
    rw (← append_assoc (replicate r (under i u)) us vs, ← k) (rw n at (past rs (replicate r (under i u) ++ us) vs (i + 1)))

-- behind a record that is reached its children are visited first
children_first : (rs : List ℕ) (vs : List Node) (i j : ℕ) → j < span (length vs) rs
    → (ws : List Node)
    × (drop (suc j) (nodes_from rs vs i) ≡ nodes_from (drop (suc j) rs) (replicate (get_or rs j 0) (under (i + j) (get_or (nodes_from rs vs i) j alone)) ++ ws) (i + suc j))
unfolding nodes_from span
children_first [] [] i j h = absurd (omega arith)
children_first [] (v ∷ vs) i j h = absurd (omega arith)
children_first (r ∷ rs) [] i j h = absurd (omega arith)
children_first (r ∷ rs) (v ∷ vs) i zero h = (vs, rw add-zero)
children_first (r ∷ rs) (v ∷ vs) i (suc j) h =
    let a : i + 1 + j ≡ i + suc j = omega arith in
    let b : i + 1 + suc j ≡ i + suc (suc j) = omega arith in
    let x = children_first rs (replicate r (under i v) ++ vs) (i + 1) j (rw (after_length r i v vs) (le_of_suc-le-suc h)) in
    (x.0, rw (← a, ← b) x.1)

-- the first visit is the first record's
first_visit : (rs : List ℕ) (v : Node) (vs : List Node) (i : ℕ) → 0 < length rs → get_or (nodes_from rs (v ∷ vs) i) 0 alone ≡ v
unfolding nodes_from
first_visit [] v vs i h = absurd (omega arith)
first_visit (r ∷ rs) v vs i h = refl

-- one visit among equal ones
visit_split : (k m : ℕ) (v : Node) (vs : List Node) → replicate (k + suc m) v ++ vs ≡ replicate k v ++ v ∷ (replicate m v ++ vs)
visit_split k m v vs = rw (← replicate-append-replicate k (suc m) v, append_assoc)

-- parents agree with `child_of`: in any tree child k of a record that is reached has that record for its parent, if the child is there
pub child_parent : (l : List ℕ) (r k : ℕ) → r < span 1 l → k < get_or l r 0 → child_of l r k < length l → node_at l (child_of l r k) ≡ under r (node_at l r)
child_parent l r k h g b =
    let d = drop (suc r) l in
    let u = under r (node_at l r) in
    let n = get_or l r 0 in
    let s = span k d in
    let x = children_first l (alone ∷ []) 0 r h in
    let ws = replicate (n - suc k) u ++ x.0 in
    let place = kid_closed l r k in
    let some_left : 0 < length (drop s d) = rw (length-drop s d, length-drop (suc r) l) (omega arith) in
    let m : k + suc (n - suc k) ≡ n = omega arith in
    let visits : replicate n u ++ x.0 ≡ replicate k u ++ u ∷ ws = ap (λ t. replicate t u ++ x.0) (sym m) ∙ visit_split k (n - suc k) u x.0 in
    let behind_is : drop (suc r) (nodes l) ≡ nodes_from d (replicate k u ++ u ∷ ws) (suc r) = rw (← visits) (rw (zero-add, zero-add) at x.1) in
    let passed : drop s (nodes_from d (replicate k u ++ u ∷ ws) (suc r)) ≡ nodes_from (drop s d) (u ∷ ws) (suc r + s) =
    rw (length-replicate k u) at (past d (replicate k u) (u ∷ ws) (suc r)) in
    ap (node_at l) place ∙ sym (get_or-drop (suc r) (nodes l) s alone) ∙ ap (λ t. get_or t s alone) behind_is
    ∙ (rw add-zero at (sym (get_or-drop s (nodes_from d (replicate k u ++ u ∷ ws) (suc r)) 0 alone)))
    ∙ ap (λ t. get_or t 0 alone) passed ∙ first_visit (drop s d) u ws (suc r + s) some_left

-- and in a whole tree every child is there
pub whole_child_parent : (l : List ℕ) → T (whole l) → (r k : ℕ) → r < length l → k < get_or l r 0 → node_at l (child_of l r k) ≡ under r (node_at l r)
whole_child_parent l t r k h g = child_parent l r k (rw (span_whole 1 l t) h) g (kid_inside l t r k h g).1

-- the lowest frame is record 0's, and the record of any other is a child of the record right below it
abbrev Entered : List ℕ → ℕ → List Frame → Type 0
Entered l r [] = r ≡ 0
Entered l r (f ∷ fs) = node_at l r ≡ under f.rec (node_at l f.rec)

abbrev AllEntered : List ℕ → List Frame → Type 0
AllEntered l [] = Unit {0}
AllEntered l (f ∷ fs) = Entered l f.rec fs × AllEntered l fs

module _ (l : List ℕ) where
  entered_parent : (fs : List Frame) → AllEntered l fs → (i : ℕ) → suc i < length fs
      → node_at l (get_or fs i (frame 0 0)).rec ≡ under (get_or fs (suc i) (frame 0 0)).rec (node_at l (get_or fs (suc i) (frame 0 0)).rec)
  entered_parent [] s i h = absurd (omega arith)
  entered_parent (f ∷ []) s i h = absurd (omega arith)
  entered_parent (f ∷ g ∷ fs) s zero h = s.0
  entered_parent (f ∷ g ∷ fs) s (suc i) h = entered_parent (g ∷ fs) s.1 i (le_of_suc-le-suc h)

  entered_top : (f : Frame) (fs : List Frame) → AllEntered l (f ∷ fs) → (node_at l f.rec).depth ≡ length fs
  entered_top f [] s = rw (s.0, first_alone l)
  entered_top f (g ∷ fs) s = rw s.0 (ap suc (entered_top g fs s.1))

  entered_depth : (fs : List Frame) → AllEntered l fs → (i : ℕ) → i < length fs → (node_at l (get_or fs i (frame 0 0)).rec).depth ≡ length (drop (suc i) fs)
  entered_depth [] s i h = absurd (omega arith)
  entered_depth (f ∷ fs) s zero h = entered_top f fs s
  entered_depth (f ∷ fs) s (suc i) h = entered_depth fs s.1 i (le_of_suc-le-suc h)

  entered_lowest : (fs : List Frame) → AllEntered l fs → (i : ℕ) → suc i ≡ length fs → (get_or fs i (frame 0 0)).rec ≡ 0
  entered_lowest [] s i h = absurd (omega arith)
  entered_lowest (f ∷ []) s zero h = s.0
  entered_lowest (f ∷ g ∷ fs) s zero h = absurd (omega arith)
  entered_lowest (f ∷ fs) s (suc i) h = entered_lowest fs s.1 i (omega arith)

-- every choice keeps that in a pattern that passes
module _ (p : Pattern) (G : GoodFile p) where
  keeps_entered : (f : Frame) (fs : List Frame) → f.rec < length p → AllEntered (rlens p) (f ∷ fs) → (m : Move) → Safe (rec_at p f.rec) m
      → AllEntered (rlens p) (applied p f fs m)
  keeps_entered f fs h s gone t = s.1
  keeps_entered f fs h s (to o) t = s
  keeps_entered f fs h s (into k o) t =
      let r = f.rec in
      let rlen_is : get_or (rlens p) r 0 ≡ (rec_at p r).rlen = get_or-map (λ (x : Record). x.rlen) p r blank in
      let count_is : length (rlens p) ≡ length p = length-map p (λ (x : Record). x.rlen) in
      (whole_child_parent (rlens p) G.tree r k (omega arith) (omega (arith, t.0)), s)

  step_entered : (fs : List Frame) → Stack p (length p) fs → AllEntered (rlens p) fs → (c : Choice) → AllEntered (rlens p) (one_step p fs c)
  unfolding one_step
  step_entered [] b s c = tt
  step_entered (f ∷ fs) b s c =
      keeps_entered f fs b.0 s (move (rec_at p f.rec) f.at c) (move_safe (rec_at p f.rec) (G.each_rec f.rec b.0) f.at b.1 c)

  from_entered : (cs : List Choice) (fs : List Frame) → Stack p (length p) fs → AllEntered (rlens p) fs → AllEntered (rlens p) (run_from p fs cs)
  unfolding run_from
  from_entered [] fs b s = s
  from_entered (c ∷ cs) fs b s = from_entered cs (one_step p fs c) (keeps_step p G fs b c) (step_entered fs b s c)

  run_entered : (cs : List Choice) → AllEntered (rlens p) (run p cs)
  unfolding run_from
  run_entered cs = from_entered cs start (run_stack p G []) (refl, tt)

  -- stepping out of a frame that a child opcode entered leads to the frame right below it, whose record is its own record's parent, one less deep
  pub run_parent : (cs : List Choice) (i : ℕ) → suc i < length (run p cs)
      → node_at (rlens p) (get_or (run p cs) i (frame 0 0)).rec
      ≡ under (get_or (run p cs) (suc i) (frame 0 0)).rec (node_at (rlens p) (get_or (run p cs) (suc i) (frame 0 0)).rec)
  run_parent cs i h = entered_parent (rlens p) (run p cs) (run_entered cs) i h

  -- so a frame's record is as deep as there are frames below it
  pub run_depth : (cs : List Choice) (i : ℕ) → i < length (run p cs)
      → (node_at (rlens p) (get_or (run p cs) i (frame 0 0)).rec).depth ≡ length (drop (suc i) (run p cs))
  run_depth cs i h = entered_depth (rlens p) (run p cs) (run_entered cs) i h

  -- and the lowest frame is record 0's
  pub run_lowest : (cs : List Choice) (i : ℕ) → suc i ≡ length (run p cs) → (get_or (run p cs) i (frame 0 0)).rec ≡ 0
  run_lowest cs i h = entered_lowest (rlens p) (run p cs) (run_entered cs) i h
