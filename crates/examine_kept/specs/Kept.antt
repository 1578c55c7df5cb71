-- A file that is loaded and then examined: what is answered, and what the tables hold where what was loaded is kept.
-- Assumes nothing.
use Rattle.std.specs.Prelude.{ℕ, List, Result, Ok, Err}
use Rattle.format.specs.Bytes.{Answer, ok, refused, bind, on_answer}
use Rattle.format.specs.Allowance.{Allowance}
use Rattle.format.specs.File.{Content}
use Rattle.format.specs.Load.{Nine, Counts, counts, Words, loading, load}
use Rattle.refusal.specs.Number.{number}
use Rattle.sections.specs.declared.Used.{Used}
use Rattle.rite.specs.Answers.{counts_of}
use Rattle.examine_asked.specs.declared.Asked.{Asked}
use Rattle.examine_asked.specs.Asked.{answering}
use Rattle.examine_kept.specs.declared.Failure.{Failure}
use Rattle.examine_kept.specs.declared.Failure.TheVariants.{Load, Examination}

-- what is answered: load's refusal, or that of what was asked
abbrev pub asked_in : Asked → List ℕ → Nine → Allowance → List ℕ → Answer Content
asked_in x f m a q = bind (loading f m a) (answering x q f)

-- the two told apart, with the tables as they are then
pub record Examined : Type 0 where
  pub answer : Answer (Answer Counts)
  pub tables : Words

abbrev pub counted : Answer Content → Answer Counts
counted x = on_answer x (λ (c : Content). ok (counts c)) refused

abbrev pub examined : Asked → List ℕ → List ℕ → Answer Content → Answer (Answer Counts)
examined x q f l = on_answer l (λ (c : Content). ok (counted (answering x q f c))) refused

-- what was loaded stays, whatever is met
unfoldable pub examine_kept : Asked → List ℕ → Nine → Allowance → List ℕ → Examined
examine_kept x f m a q = record { answer = examined x q f (loading f m a); tables = (load f m a).tables }

-- what each case of the answer says
abbrev pub kept_answer : Result Used Failure → Answer (Answer Counts)
kept_answer (Ok u) = ok (ok (counts_of u))
kept_answer (Err (Examination e)) = ok (refused (number e))
kept_answer (Err (Load e)) = refused (number e)

abbrev pub kept_of : Result Used Failure → Words → Examined
kept_of r t = record { answer = kept_answer r; tables = t }
