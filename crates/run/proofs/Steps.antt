-- One choice over the frame table of a pattern that passes.
-- Assumes nothing.
use Prim.Native.Nat.{ℕ, ◌+◌, ◌-◌, ◌*◌, ◌≤◌, ◌<◌}
use native.Mathlib.Omega.{arith}
use mathlib.Core.Path.{◌≡◌, sym, ap, ◌∙◌, subst}
use mathlib.Core.Option.{Option}
use mathlib.Core.List.{List, ◌∷◌}
use lib.Dec.{T}
use lib.ListN.{length, get_or, set, drop, length-set, length-take, length-drop}
use lib.Seq.{set-get_or}
use Rattle.format.specs.Line.{line_at}
use Rattle.format.specs.Lookup.{record_word}
use Rattle.format.specs.Tree.{child_of}
use Rattle.format.specs.Pattern.{Record, Pattern, rlens, begins}
use Rattle.format.specs.Run.{Choice, Frame, frame, Move, gone, to, into, move, applied, one_step, standing, stands, finished, frame_table}
use Rattle.runs.specs.Stack.{Stack, Stands}
use Rattle.runs.proofs.Exact.{Good, GoodFile, good_file}
use Rattle.runs.proofs.Begins.{reach_inside}
use Rattle.runs.proofs.Safe.{Safe, move_safe, keeps_step}
use Rattle.runs.proofs.Frame.{stack_few}
use Rattle.exam.specs.View.{code_at, entries, record_at, pattern_at, rlens_at, RowFits, Ready}
use Rattle.moves.specs.Part.{part_at}
use Rattle.run.specs.Frames.{frames_of, Held}
use Rattle.moves.proofs.Moves.{move_part}
use Rattle.exam.proofs.Join.{rlens_are}
use Rattle.run.proofs.View.{pattern_length, record_is}
use Rattle.run.proofs.Tables.{push, pop, frames_cons, frames_none}
use Rattle.run.proofs.Tables as tables

-- a choice leaves no frame where there is none
pub held_none : (p : Pattern) (t : List ℕ) (d : ℕ) (ch : Choice) → d ≡ 0 → Held p t d (frames_of t d) → Held p t 0 (one_step p (frames_of t d) ch)
unfolding one_step
held_none p t d ch z h =
    let q = frames_none t d z in
    record { table = rw q (rw q at h.table); deep = rw q; stack = rw q tt }

pub standing_none : (p : Pattern) (t : List ℕ) (d : ℕ) → d ≡ 0 → finished ≡ standing p (frames_of t d)
unfolding standing
standing_none p t d z = rw (frames_none t d z)

-- the numbers of a table that holds frames
pub record Sizes (t : List ℕ) (n d : ℕ) : Type 0 where
  pub few : n ≤ 1024
  pub depth : d ≤ n
  pub room : 2 * n ≤ length t

-- ready, enough, held: what the code asks of its caller
module _ {f recs hs ls t : List ℕ} {n d : ℕ}
    (ready : Ready f recs hs ls n) (enough : 2 * n ≤ length t) (held : Held (pattern_at f recs hs ls n) t d (frames_of t d)) where
  abbrev p : Pattern
  p = pattern_at f recs hs ls n

  good : GoodFile p
  good = good_file ready.list p ready.passes

  pub sizes : Sizes t n d
  sizes = record { few = ready.fits.few; depth = omega (arith, held.deep, stack_few p good (frames_of t d) (length p) held.stack, pattern_length f recs hs ls n); room = enough }

  -- r, o: the top frame, as the code read it
  module _ (z : d ≡ 0 → ⊥) {r o : ℕ} (er : r ≡ get_or t ((d - 1) * 2) 0) (eo : o ≡ get_or t ((d - 1) * 2 + 1) 0) where
    abbrev under : List Frame
    under = frames_of t (d - 1)

    frames_are : frames_of t d ≡ frame r o ∷ under
    frames_are = frames_cons t d z ∙ rw (er, eo)

    stack_is : Stack p (length p) (frame r o ∷ under)
    stack_is = subst (λ (fs : List Frame). Stack p (length p) fs) frames_are held.stack

    pub inside : r < n
    inside = omega (arith, stack_is.0, pattern_length f recs hs ls n)

    pub row_fits : RowFits f recs hs ls r
    row_fits = ready.fits.each r inside

    starts : T (begins (code_at f recs r) o)
    starts = subst (λ (x : Record). T (begins x.code o)) (record_is f recs hs ls n r inside) stack_is.1

    good_record : Good (record_at f recs hs ls r)
    good_record = subst Good (record_is f recs hs ls n r inside) (good.each_rec r stack_is.0)

    pub top_stands : Stands (code_at f recs r) o
    top_stands = record { starts = starts; paired = good_record.paired o starts; reads = good_record.reads o starts; goes = good_record.go o starts }

    pub standing_top : {a : ℕ} {x : Option ℕ} → a ≡ r → x ≡ line_at (entries ls (record_word recs r 17) (record_word recs r 18)) o
        → stands (frame a o) x d ≡ standing p (frames_of t d)
    unfolding standing
    standing_top ea e =
        let q : length (frame r o ∷ under) ≡ d = ap length (sym frames_are) ∙ sym held.deep in
        rw (frames_are, record_is f recs hs ls n r inside, q, ea, e)

    -- m: the move that the code found
    module _ (ch : Choice) (m : Move) (e : m ≡ move (part_at f recs hs r) o ch) where
      moves : m ≡ move (record_at f recs hs ls r) o ch
      moves = e ∙ move_part (record_at f recs hs ls r) o ch

      step_is : one_step p (frames_of t d) ch ≡ applied p (frame r o) under m
      unfolding one_step
      step_is = rw (frames_are, record_is f recs hs ls n r inside, ← moves)

      safe : Safe (record_at f recs hs ls r) m
      safe = subst (λ (x : Move). Safe (record_at f recs hs ls r) x) (sym moves) (move_safe (record_at f recs hs ls r) good_record o starts ch)

      stack_then : Stack p (length p) (one_step p (frames_of t d) ch)
      stack_then = keeps_step p good (frames_of t d) held.stack ch

      few_then : length (applied p (frame r o) under m) ≤ n
      few_then =
          rw (step_is, pattern_length f recs hs ls n) at (stack_few p good (one_step p (frames_of t d) ch) (length p) stack_then)

      -- the table and the depth of the frames after it
      held_by : (u : List ℕ) (k : ℕ) → length u ≡ length t → u ≡ frame_table (length t) (applied p (frame r o) under m)
          → k ≡ length (applied p (frame r o) under m) → Held p u k (one_step p (frames_of t d) ch)
      held_by u k a b c = record { table = rw (step_is, a) b; deep = rw step_is c; stack = stack_then }

    under_depth : length under ≡ d - 1
    under_depth = omega (arith, held.deep, ap length frames_are)

    table_is : t ≡ frame_table (length t) (frame r o ∷ under)
    table_is = held.table ∙ ap (frame_table (length t)) frames_are

    roomy : 2 * length under + 2 ≤ length t
    roomy = omega (arith, under_depth, sizes)

    at_row : (d - 1) * 2 ≡ 2 * length under
    at_row = omega (arith, under_depth)

    small : (x : ℕ) → T (begins (code_at f recs r) x) → x < 65536
    small x b =
        omega (arith, reach_inside (code_at f recs r) 0 x b, length-take (record_word recs r 5) (drop (record_word recs r 6) f), length-drop (record_word recs r 6) f, ready.fits.small)

    -- u: the table after the code put its frames
    pub held_gone : {u : List ℕ} (ch : Choice) → gone ≡ move (part_at f recs hs r) o ch → u ≡ set (set t ((d - 1) * 2) 0) ((d - 1) * 2 + 1) 0
        → Held p u (d - 1) (one_step p (frames_of t d) ch)
    held_gone ch e w =
        held_by ch gone e _ _ (ap length w ∙ simp length-set)
        (w ∙ ap (λ (l : List ℕ). set (set l ((d - 1) * 2) 0) ((d - 1) * 2 + 1) 0) table_is ∙ pop (length t) under roomy ((d - 1) * 2) at_row (frame r o))
        (sym under_depth)

    -- the top frame with another offset
    put_is : (x : ℕ) → set (set t ((d - 1) * 2) r) ((d - 1) * 2 + 1) x ≡ frame_table (length t) (frame r x ∷ under)
    put_is x =
        let i = (d - 1) * 2 in
        let q : set t i r ≡ t = ap (set t i) er ∙ set-get_or t i 0 in
        ap (λ (l : List ℕ). set l (i + 1) x) (q ∙ table_is) ∙ tables.move (length t) under roomy i at_row (frame r o) x

    module _ (ch : Choice) (x : ℕ) (e : to x ≡ move (part_at f recs hs r) o ch) where
      pub to_small : x < 65536
      to_small = small x (safe ch (to x) e)

      pub held_to : {u : List ℕ} → u ≡ set (set t ((d - 1) * 2) r) ((d - 1) * 2 + 1) x → Held p u d (one_step p (frames_of t d) ch)
      held_to w = held_by ch (to x) e _ _ (ap length w ∙ simp length-set) (w ∙ put_is x) (omega (arith, under_depth))

    -- k, x: the child's number and the offset behind the instruction
    module _ (ch : Choice) (k x : ℕ) (e : into k x ≡ move (part_at f recs hs r) o ch) where
      pub into_small : (x < 65536) × (k < record_word recs r 3)
      into_small = let s = safe ch (into k x) e in (small x s.1, s.0)

      -- the child is a record, and there is a row for it
      pub into_room : (q : ℕ) → q ≡ child_of (rlens_at recs n) r k → (q < n) × (d < n)
      into_room q w =
          let a : Stack p (length p) (applied p (frame r o) under (into k x))
          = subst (λ (fs : List Frame). Stack p (length p) fs) (step_is ch (into k x) e) (stack_then ch (into k x) e) in
          let b : child_of (rlens_at recs n) r k < length p = rw (rlens_are f recs hs ls n) at a.0 in
          (omega (arith, pattern_length f recs hs ls n), omega (arith, few_then ch (into k x) e, under_depth))

      pub held_into : {u v : List ℕ} (q : ℕ) → q ≡ child_of (rlens_at recs n) r k → u ≡ set (set t ((d - 1) * 2) r) ((d - 1) * 2 + 1) x
          → v ≡ set (set u (d * 2) q) (d * 2 + 1) 0 → Held p v (d + 1) (one_step p (frames_of t d) ch)
      held_into {u} {v} q w eu ev =
          let c : q ≡ child_of (rlens p) r k = rw (rlens_are f recs hs ls n) w in
          held_by ch (into k x) e _ _ (ap length (ev ∙ ap (λ (l : List ℕ). set (set l (d * 2) q) (d * 2 + 1) 0) eu) ∙ simp length-set)
          (ev ∙ ap (λ (l : List ℕ). set (set l (d * 2) q) (d * 2 + 1) 0) (eu ∙ put_is x)
          ∙ push (length t) (frame r x ∷ under) (omega (arith, (into_room q w).1, under_depth, sizes)) (d * 2) (omega (arith, under_depth)) (frame q 0)
          ∙ ap (λ (y : ℕ). frame_table (length t) (frame y 0 ∷ frame r x ∷ under)) c)
          (omega (arith, under_depth))
