-- What follow answers, with nine tables and the frame table as they are then.
-- Assumes nothing.
use Rattle.std.specs.Prelude.{ℕ, List, Result, Option}
use Rattle.format.specs.Load.{Words}
use Rattle.format.specs.Run as format
use Rattle.refusal.specs.declared.Refusal.{Refusal}
use Rattle.refusal.specs.Number.{answer_as}
use Rattle.run.specs.declared.Standing.{Standing}
use Rattle.run.specs.Answers.{followed_of}

abbrev pub followed : Result (Option Standing) Refusal → Words → List ℕ → format.Followed
followed r w t = record { answer = answer_as followed_of r; tables = w; frames = t }
