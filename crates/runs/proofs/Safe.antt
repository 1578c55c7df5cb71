-- The invariant of a run, kept by every choice, and demand 3's claim about the whole choice list.
-- Assumes nothing.
use Prim.Native.Nat.{ℕ, ◌≤◌, ◌<◌}
use native.Mathlib.Omega.{arith}
use mathlib.Core.Path.{◌≡◌, refl}
use mathlib.Core.Bool.{Bool, true, false}
use mathlib.Core.Option.{Option, none, some}
use mathlib.Core.List.{List, [], ◌∷◌}
use lib.Dec.{T, ltb, ltb→lt}
use lib.ListN.{length, get_or, length-map, get_or-map}
use borrow.Author.Tests.{ltb-true}
use Rattle.format.specs.Insn.{Role, reg, pool, sym as symbol, child, plain, Flow, on, ends, jumps, may, roles, flow, opcode, row_at, operands_at, next, target}
use Rattle.format.specs.Tree.{child_of}
use Rattle.format.specs.Pattern.{Record, Pattern, clen, rec_at, blank, begins, reach, lands, rlens}
use Rattle.format.specs.Exam.{operands_below, follows, leads, below, all_below}
use Rattle.format.specs.Run.{Choice, go_on, jump, enter, leave, caught, Frame, child_operand, Move, gone, to, into, goes, jumped, entered, catches, move, applied, one_step, run_from}
use Rattle.runs.specs.Stack.{Stack}
use Rattle.format.proofs.Table.{both}
use Rattle.runs.proofs.Tree.{kid_inside}
use Rattle.runs.proofs.Table.{child_on}
use Rattle.runs.proofs.Registers.{bounded_operands}
use Rattle.runs.proofs.Exact.{Good, GoodFile}

-- an operand that numbers a child is below rlen
child_below : (r : Record) (xs : List Role) (vs : List ℕ) (k : ℕ) → T (all_below r xs vs) → child_operand xs vs ≡ some k → k < r.rlen
unfolding all_below child_operand below
child_below r [] vs k t e = let z : ◌≡◌ {A = ℕ} 0 1 = cc in omega arith
child_below r (x ∷ xs) [] k t e = let z : ◌≡◌ {A = ℕ} 0 1 = cc in omega arith
child_below r (reg ∷ xs) (v ∷ vs) k t e = child_below r xs vs k (search both) e
child_below r (pool ∷ xs) (v ∷ vs) k t e = child_below r xs vs k (search both) e
child_below r (symbol ∷ xs) (v ∷ vs) k t e = child_below r xs vs k (search both) e
child_below r (child ∷ xs) (v ∷ vs) k t e =
    let q : v ≡ k = cc in omega (arith, ltb→lt v r.rlen (search both))
child_below r (plain ∷ xs) (v ∷ vs) k t e = child_below r xs vs k t e

-- where an instruction begins in a record that is not empty
pub begins_zero : (c : List ℕ) → 0 < length c → T (begins c 0)
unfolding reach
begins_zero [] h = absurd (omega arith)
begins_zero (b ∷ c) h = tt

-- A move that is safe in a record: it goes to where an instruction begins, and a child that it names is there.
abbrev pub Safe : Record → Move → Type 0
Safe r gone = Unit {0}
Safe r (to o) = T (begins r.code o)
Safe r (into k o) = (k < r.rlen) × T (begins r.code o)

-- in a record that passes every choice is a safe move
module _ (r : Record) (G : Good r) (o : ℕ) (t : T (begins r.code o)) where
  led : T (leads (flow (row_at r.code o)) (begins r.code (next r.code o)) (lands r.code o))
  unfolding follows
  led = G.go o t

  landed : T (lands r.code o) → T (begins r.code (target r.code o))
  unfolding lands
  landed l = search both

  goes_safe : (w : Flow) → T (leads w (begins r.code (next r.code o)) (lands r.code o)) → Safe r (goes w (next r.code o) (target r.code o))
  goes_safe on l = l
  goes_safe ends l = tt
  goes_safe jumps l = landed l
  goes_safe may l = search both

  jumped_safe : (w : Flow) → T (leads w (begins r.code (next r.code o)) (lands r.code o)) → Safe r (jumped w (next r.code o) (target r.code o))
  jumped_safe on l = l
  jumped_safe ends l = tt
  jumped_safe jumps l = landed l
  jumped_safe may l = landed (search both)

  entered_safe : (k : Option ℕ) → child_operand (roles (row_at r.code o)) (operands_at r.code o) ≡ k
      → Safe r (entered k (next r.code o) (goes (flow (row_at r.code o)) (next r.code o) (target r.code o)))
  unfolding operands_below
  entered_safe none e = goes_safe (flow (row_at r.code o)) led
  entered_safe (some k) e = (
    child_below r (roles (row_at r.code o)) (operands_at r.code o) k (bounded_operands r o (G.fit o t)) e,
    rw (child_on (opcode r.code o) (operands_at r.code o) k e) at led,
  )

  caught_safe : (h : ℕ) (b : Bool) → ltb h (clen r) ≡ b
      → Safe r (catches b (get_or r.handlers h 0) (goes (flow (row_at r.code o)) (next r.code o) (target r.code o)))
  caught_safe h true e = G.caught h (ltb-true h (clen r) e)
  caught_safe h false e = goes_safe (flow (row_at r.code o)) led

  pub move_safe : (c : Choice) → Safe r (move r o c)
  unfolding move
  move_safe go_on = goes_safe (flow (row_at r.code o)) led
  move_safe jump = jumped_safe (flow (row_at r.code o)) led
  move_safe enter = entered_safe _ refl
  move_safe (caught h) = caught_safe h _ refl
  move_safe leave = tt

-- and a safe move keeps the invariant
module _ (F : Pattern) (G : GoodFile F) (f : Frame) (under : List Frame) (s : Stack F (length F) (f ∷ under)) where
  widen : (n : ℕ) → n ≤ length F → (fs : List Frame) → Stack F n fs → Stack F (length F) fs
  widen n h [] w = tt
  widen n h (g ∷ fs) w = (omega (arith, w.0), w.1, w.2)

  keeps : (m : Move) → Safe (rec_at F f.rec) m → Stack F (length F) (applied F f under m)
  keeps gone t = widen f.rec (omega (arith, s.0)) under s.2
  keeps (to o) t = (s.0, t, s.2)
  keeps (into k o) t =
      let r = f.rec in
      let rlen_is : get_or (rlens F) r 0 ≡ (rec_at F r).rlen = get_or-map (λ (x : Record). x.rlen) F r blank in
      let count_is : length (rlens F) ≡ length F = length-map F (λ (x : Record). x.rlen) in
      let inside = kid_inside (rlens F) G.tree r k (omega (arith, s.0)) (omega (arith, t.0)) in
      let kid_below : child_of (rlens F) r k < length F = omega arith in
      (kid_below, begins_zero _ (G.each_rec (child_of (rlens F) r k) kid_below).filled, (inside.0, t.1, s.2))

pub keeps_step : (F : Pattern) → GoodFile F → (fs : List Frame) → Stack F (length F) fs → (c : Choice) → Stack F (length F) (one_step F fs c)
unfolding one_step
keeps_step F G [] s c = tt
keeps_step F G (f ∷ fs) s c =
    keeps F G f fs s (move (rec_at F f.rec) f.at c) (move_safe (rec_at F f.rec) (G.each_rec f.rec s.0) f.at s.1 c)

pub keeps_run : (F : Pattern) → GoodFile F → (cs : List Choice) (fs : List Frame) → Stack F (length F) fs → Stack F (length F) (run_from F fs cs)
unfolding run_from
keeps_run F G [] fs s = s
keeps_run F G (c ∷ cs) fs s = keeps_run F G cs (one_step F fs c) (keeps_step F G fs s c)
