-- What holds of the frames of every run of a pattern that passes: the invariant of `Safe`, read off frame by frame.
-- Assumes nothing.
use Prim.Native.Nat.{ℕ, zero, suc, ◌≤◌, ◌<◌}
use native.Mathlib.Nat.{le_of_suc-le-suc}
use native.Mathlib.Omega.{arith}
use mathlib.Core.Path.{◌≡◌, refl}
use mathlib.Core.Logic.{◌↔◌}
use mathlib.Core.List.{List, [], ◌∷◌}
use lib.Dec.{T}
use lib.ListN.{length, get_or, length-map}
use Rattle.format.specs.Line.{line_at, last_at_or_below}
use Rattle.format.specs.Pattern.{Record, Pattern, rec_at, rlens, begins}
use Rattle.format.specs.Permitted.{permitted_at}
use Rattle.format.specs.Run.{Choice, Frame, frame, code_of, start, run, standing, finished, stands}
use Rattle.format.specs.Claim.{FrameHolds}
use Rattle.runs.specs.Stack.{Stack}
use Rattle.format.proofs.Table.{both}
use Rattle.runs.proofs.Registers.{below_of, named_below}
use Rattle.runs.proofs.Tree.{whole_iff}
use Rattle.runs.proofs.Line.{line_last}
use Rattle.runs.proofs.Begins.{begins_iff}
use Rattle.runs.proofs.Exact.{GoodFile, PermittingFile}
use Rattle.runs.proofs.Safe.{begins_zero, keeps_run}

module _ (p : Pattern) (G : GoodFile p) where
  line_holds : (f : Frame) → f.rec < length p → line_at (rec_at p f.rec).lines f.at ≡ last_at_or_below (rec_at p f.rec).lines f.at
  line_holds f h = line_last (rec_at p f.rec).lines (G.each_rec f.rec h).rise f.at

  pub stack_falls : (fs : List Frame) (n : ℕ) → Stack p n fs → (i : ℕ) → suc i < length fs
      → (get_or fs (suc i) (frame 0 0)).rec < (get_or fs i (frame 0 0)).rec
  stack_falls [] n s i h = absurd (omega arith)
  stack_falls (f ∷ []) n s i h = absurd (omega arith)
  stack_falls (f ∷ g ∷ fs) n s zero h = s.2.0
  stack_falls (f ∷ g ∷ fs) n s (suc i) h = stack_falls (g ∷ fs) f.rec s.2 i (le_of_suc-le-suc h)

  pub stack_few : (fs : List Frame) (n : ℕ) → Stack p n fs → length fs ≤ n
  stack_few [] n s = omega arith
  stack_few (f ∷ fs) n s = omega (arith, s.0, stack_few fs f.rec s.2)

  -- the run begins in record 0, which is there since the tree is whole
  pub run_stack : (cs : List Choice) → Stack p (length p) (run p cs)
  run_stack cs = keeps_run p G cs start (first_in, begins_zero (rec_at p 0).code (G.each_rec 0 first_in).filled, tt)
    where
      first_in : 0 < length p
      first_in = omega (arith, ((whole_iff (rlens p)).0 G.tree).sums, length-map p (λ (x : Record). x.rlen))

  pub done_iff : (fs : List Frame) → (standing p fs ≡ finished) ↔ (fs ≡ [])
  unfolding standing
  done_iff [] = (λ e. refl, λ e. refl)
  done_iff (f ∷ fs) = (λ e. cc, λ e. cc)

  pub top_is : (f : Frame) (fs gs : List Frame) → Stack p (length p) gs → gs ≡ f ∷ fs
      → standing p gs ≡ stands f (last_at_or_below (rec_at p f.rec).lines f.at) (length gs)
  unfolding standing
  top_is f fs [] s e = cc
  top_is f fs (g ∷ gs) s e =
      let q : line_at (rec_at p g.rec).lines g.at ≡ last_at_or_below (rec_at p g.rec).lines g.at = line_holds g s.0 in
      let k : g ≡ f = cc in
      cc

-- with a list that permits every instruction of the pattern
module _ (q : List ℕ) (p : Pattern) (G : GoodFile p) (A : PermittingFile q p) where
  frame_holds : (f : Frame) → f.rec < length p → T (begins (code_of p f) f.at) → FrameHolds q p f
  unfolding permitted_at
  frame_holds f h t =
      let g = G.each_rec f.rec h in
      let a = A f.rec h f.at t in
      record {
        inside = h;
        starts = (begins_iff (code_of p f) f.at).0 t;
        paired = g.paired f.at t;
        whole = g.reads f.at t;
        opcode_permitted = search both;
        prefix_permitted = search both;
        operands = below_of (rec_at p f.rec) f.at (g.fit f.at t);
        registers = named_below (rec_at p f.rec) f.at (g.fit f.at t);
        line = line_holds p G f h;
      }

  pub stack_frames : (fs : List Frame) (n : ℕ) → n ≤ length p → Stack p n fs → (i : ℕ) → i < length fs → FrameHolds q p (get_or fs i (frame 0 0))
  stack_frames [] n b s i h = absurd (omega arith)
  stack_frames (f ∷ fs) n b s zero h = frame_holds f (omega (arith, s.0)) s.1
  stack_frames (f ∷ fs) n b s (suc i) h = stack_frames fs f.rec (omega (arith, s.0)) s.2 i (le_of_suc-le-suc h)
