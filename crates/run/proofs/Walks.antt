-- The loop over the choice bytes, and follow's answer.
-- Assumes nothing.
use Prim.Native.Nat.{ℕ, ◌*◌, ◌≤◌}
use native.Mathlib.Omega.{arith}
use mathlib.Core.Path.{◌≡◌, refl, sym, ap, ◌∙◌, subst}
use mathlib.Core.List.{List, []}
use lib.ListN.{length, drop, replicate}
use Rattle.format.specs.Bytes.{Answer, ok, refused, on_answer}
use Rattle.format.specs.Pattern.{Pattern}
use Rattle.format.specs.Run as format
use Rattle.format.specs.Run.{Frame, start, one_step, run_from, run, Standing, standing, frame_table, choices, put, choices_from}
use Rattle.runs.specs.Stack.{Stack}
use Rattle.runs.proofs.Choices.{read_end}
use Rattle.runs.proofs.Exact.{good_file}
use Rattle.runs.proofs.Frame.{run_stack}
use Rattle.exam.specs.View.{pattern_at, Ready}
use Rattle.moves.specs.declared.Choice.{Choice}
use Rattle.moves.specs.Answers.{choice_of, NextIs}
use Rattle.run.specs.Frames.{frames_of, Held}
use Rattle.run.specs.Follow.{Out, out, follow_out, after, ran_bytes, Ran}
use Rattle.run.proofs.View.{pattern_length}
use Rattle.run.proofs.Tables.{frames_back, zeros_start, zeros_none}

after_put : (p : Pattern) (fs : List Frame) (c : format.Choice) (r : Answer (List format.Choice)) → after p fs (put c r) ≡ after p (one_step p fs c) r
unfolding run_from
after_put p fs c (refused n) = refl
after_put p fs c (ok cs) = refl

held_frames : (p : Pattern) (t : List ℕ) (d : ℕ) (fs : List Frame) → Held p t d fs → frames_of t d ≡ fs
held_frames p t d fs h =
    ap (λ (x : List ℕ). frames_of x d) h.table ∙ ap (λ (k : ℕ). frames_of (frame_table (length t) fs) k) h.deep ∙ frames_back (length t) fs

-- the table holds the frames after the choices before place i
pub record Walking (p : Pattern) (bs t : List ℕ) (d i : ℕ) : Type 0 where
  pub held : Held p t d (frames_of t d)
  pub so : ran_bytes p bs ≡ after p (frames_of t d) (choices_from format.kind (drop i bs))

pub walking_start : {f recs hs ls : List ℕ} {n : ℕ} (bs : List ℕ) {t : List ℕ} → Ready f recs hs ls n → 2 * n ≤ length t → t ≡ replicate (length t) 0
    → Walking (pattern_at f recs hs ls n) bs t 1 0
unfolding run_from
walking_start {f} {recs} {hs} {ls} {n} bs {t} R room e =
    let s : Stack (pattern_at f recs hs ls n) (length (pattern_at f recs hs ls n)) start
    = run_stack (pattern_at f recs hs ls n) (good_file R.list (pattern_at f recs hs ls n) R.passes) [] in
    let l : 2 ≤ length t = omega (arith, s.0, pattern_length f recs hs ls n) in
    let h : Held (pattern_at f recs hs ls n) t 1 start = record { table = e ∙ zeros_start (length t) l; deep = refl; stack = s } in
    let q : frames_of t 1 ≡ start = held_frames (pattern_at f recs hs ls n) t 1 start h in
    record {
      held = subst (λ (fs : List Frame). Held (pattern_at f recs hs ls n) t 1 fs) (sym q) h;
      so = ap (λ (fs : List Frame). after (pattern_at f recs hs ls n) fs (choices bs)) (sym q);
    }

module _ {p : Pattern} {bs t : List ℕ} {d i : ℕ} (w : Walking p bs t d i) where
  pub walking_step : {u : List ℕ} {k j : ℕ} {c : Choice} → NextIs bs i c j → Held p u k (one_step p (frames_of t d) (choice_of c)) → Walking p bs u k j
  walking_step {u} {k} {j} {c} r h =
      let q : frames_of u k ≡ one_step p (frames_of t d) (choice_of c) = held_frames p u k (one_step p (frames_of t d) (choice_of c)) h in
      record {
        held = subst (λ (fs : List Frame). Held p u k fs) (sym q) h;
        so =
            w.so ∙ ap (after p (frames_of t d)) r.so ∙ after_put p (frames_of t d) (choice_of c) (choices_from format.kind (drop j bs))
            ∙ ap (λ (fs : List Frame). after p fs (choices_from format.kind (drop j bs))) (sym q);
      }

  pub walking_end : length bs ≤ i → Ran p bs t d
  unfolding run_from
  walking_end h = record { held = w.held; so = w.so ∙ ap (after p (frames_of t d)) (read_end bs i h) }

-- follow's answer and table, by the frames after the choices
told : Pattern → ℕ → Answer (List Frame) → Out
told p n a = on_answer a (λ fs. out (ok (standing p fs)) (frame_table n fs)) (λ e. out (refused e) (frame_table n []))

follow_told : (p : Pattern) (bs : List ℕ) (n : ℕ) → told p n (ran_bytes p bs) ≡ follow_out p bs n
unfolding follow_out told
follow_told p bs n = go (choices bs)
  where
    go : (a : Answer (List format.Choice)) → told p n (after p start a)
        ≡ on_answer a (λ cs. out (ok (standing p (run p cs))) (frame_table n (run p cs))) (λ e. out (refused e) (frame_table n []))
    go (ok cs) = refl
    go (refused e) = refl

module _ (p : Pattern) (bs : List ℕ) (n : ℕ) where
  pub out_bad : {t : List ℕ} {m : ℕ} (k : ℕ) → ran_bytes p bs ≡ refused m → t ≡ replicate k 0 → k ≡ n → out (refused m) t ≡ follow_out p bs n
  unfolding told
  out_bad {t} {m} k e z q =
      let y : t ≡ frame_table n [] = z ∙ ap (λ (i : ℕ). replicate i 0) q ∙ zeros_none n in
      ap (out (refused m)) y ∙ ap (told p n) (sym e) ∙ follow_told p bs n

  pub out_ran : {d : ℕ} {t : List ℕ} {s : Standing} → Ran p bs t d → length t ≡ n → s ≡ standing p (frames_of t d) → out (ok s) t ≡ follow_out p bs n
  unfolding told
  out_ran {d} {t} r l q =
      let k : t ≡ frame_table n (frames_of t d) = rw l at r.held.table in
      ap (λ (x : Standing). out (ok x) t) q ∙ ap (out (ok (standing p (frames_of t d)))) k ∙ ap (told p n) (sym r.so) ∙ follow_told p bs n
