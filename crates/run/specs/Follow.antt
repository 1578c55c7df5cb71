-- Follow over a pattern that passes: its answer and the frame table, and what the loop over the choices answers.
-- Assumes nothing.
use Rattle.std.specs.Prelude.{ℕ, ◌≡◌, List, [], Result, Ok, Err}
use Rattle.format.specs.Bytes.{Answer, ok, refused, bind, on_answer}
use Rattle.format.specs.Pattern.{Pattern}
use Rattle.format.specs.Run.{Choice, Frame, Standing, standing, start, run, run_from, choices, frame_table}
use Rattle.refusal.specs.Number.{number}
use Rattle.refusal.specs.declared.Refusal.{Refusal}
use Rattle.run.specs.Frames.{frames_of, Held}

-- follow's answer, and the words of the frame table afterwards
pub record Out : Type 0 where
  pub answer : Answer Standing
  pub frames : List ℕ

abbrev pub out : Answer Standing → List ℕ → Out
out a t = record { answer = a; frames = t }

-- where the run along the choice bytes stands, over a frame table of n words: after a refusal zeros alone
unfoldable pub follow_out : Pattern → List ℕ → ℕ → Out
follow_out p bs n =
    on_answer (choices bs) (λ cs. out (ok (standing p (run p cs))) (frame_table n (run p cs))) (λ e. out (refused e) (frame_table n []))

-- the frames after choices that may be refused
abbrev pub after : Pattern → List Frame → Answer (List Choice) → Answer (List Frame)
after p fs a = bind a (λ cs. ok (run_from p fs cs))

abbrev pub ran_bytes : Pattern → List ℕ → Answer (List Frame)
ran_bytes p bs = after p start (choices bs)

-- the d frames that the table holds are those after the choice bytes
pub record Ran (p : Pattern) (bs t : List ℕ) (d : ℕ) : Type 0 where
  pub held : Held p t d (frames_of t d)
  pub so : ran_bytes p bs ≡ ok (frames_of t d)

-- what the loop over the choice bytes answers
abbrev pub Walk : Pattern → List ℕ → List ℕ → Result ℕ Refusal → Type 0
Walk p bs t (Ok d) = Ran p bs t d
Walk p bs t (Err e) = (ran_bytes p bs ≡ refused 21) × (number e ≡ 21)
