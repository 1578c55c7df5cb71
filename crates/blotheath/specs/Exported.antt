-- What the caller of a load, an examination or a follow has afterwards: the struct, and the contents of the lent tables.
-- Assumes nothing.
use Rattle.std.specs.Prelude.{ℕ, List}
use Rattle.format.specs.Load as format
use Rattle.format.specs.Run as run
use Rattle.boundary.specs.declared.BlotheathLoaded.{BlotheathLoaded}
use Rattle.boundary.specs.declared.BlotheathFollowed.{BlotheathFollowed}
use Rattle.boundary.specs.Structs as structs

pub record Exported : Type 0 where
  pub answer : BlotheathLoaded
  pub tables : format.Words

abbrev pub exported : BlotheathLoaded → format.Words → Exported
exported r t = record { answer = r; tables = t }

abbrev pub loaded_is : format.Loaded → Exported
loaded_is l = exported (structs.loaded_is l.answer) l.tables

pub record Ran : Type 0 where
  pub answer : BlotheathFollowed
  pub tables : format.Words
  pub frames : List ℕ

abbrev pub ran : BlotheathFollowed → format.Words → List ℕ → Ran
ran r t f = record { answer = r; tables = t; frames = f }

abbrev pub ran_is : run.Followed → Ran
ran_is x = ran (structs.followed_is x.answer) x.tables x.frames
