-- What the structs of a load, an examination and a run say of the format's answers.
-- Assumes nothing.
use Rattle.format.specs.Bytes.{Answer, ok, refused}
use Rattle.format.specs.Load.{Counts}
use Rattle.format.specs.Run.{Standing, finished, stands}
use Rattle.boundary_steps.specs.Structs.{line_is}
use Rattle.boundary.specs.declared.BlotheathLoaded.{BlotheathLoaded}
use Rattle.boundary.specs.declared.BlotheathFollowed.{BlotheathFollowed}

-- the rows used of each table, and the visits
abbrev pub counts_is : Counts → BlotheathLoaded
counts_is n =
    record {
      refusal = 0;
      records = n.rows.records;
      handlers = n.rows.handlers;
      pool = n.rows.pool;
      symbols = n.rows.symbols;
      strings = n.rows.strings;
      names = n.rows.names;
      filenames = n.rows.file_names;
      files = n.rows.files;
      lines = n.rows.lines;
      visits = n.visits;
    }

abbrev pub loaded_is : Answer Counts → BlotheathLoaded
loaded_is (ok n) = counts_is n
loaded_is (refused e) =
    record { refusal = e; records = 0; handlers = 0; pool = 0; symbols = 0; strings = 0; names = 0; filenames = 0; files = 0; lines = 0; visits = 0 }

abbrev pub standing_is : Standing → BlotheathFollowed
standing_is finished = record { refusal = 0; finished = 1; «record» = 0; offset = 0; found = 0; line = 0; frames = 0 }
standing_is (stands f l n) =
    record { refusal = 0; finished = 0; «record» = f.rec; offset = f.at; found = (line_is l).found; line = (line_is l).line; frames = n }

abbrev pub followed_is : Answer Standing → BlotheathFollowed
followed_is (ok s) = standing_is s
followed_is (refused e) = record { refusal = e; finished = 0; «record» = 0; offset = 0; found = 0; line = 0; frames = 0 }
