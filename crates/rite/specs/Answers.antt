-- What a load answers, case by case, the lengths of nine tables, and what a caller allows.
-- Assumes nothing.
use Rattle.std.specs.Prelude.{length, ℕ, List, Result}
use Rattle.format.specs.Allowance.{Allowance, allowance}
use Rattle.format.specs.Load as format
use Rattle.irep.specs.declared.Limits.{Limits}
use Rattle.rite.specs.declared.Allowance.{Allowance as Given}
use Rattle.sections.specs.declared.Used.{Used}
use Rattle.refusal.specs.declared.Refusal.{Refusal}
use Rattle.refusal.specs.Number.{answer_as}
pub use Rattle.tables.specs.Tables.{words, Zeros}

-- their lengths
abbrev pub sizes : format.Words → format.Nine
sizes t =
    record {
      records = length t.records;
      handlers = length t.handlers;
      pool = length t.pool;
      symbols = length t.symbols;
      strings = length t.strings;
      names = length t.names;
      file_names = length t.file_names;
      files = length t.files;
      lines = length t.lines;
    }

-- the numbers of rows that the code counts
abbrev pub nine_of : Used → format.Nine
nine_of u =
    record { records = u.records; handlers = u.handlers; pool = u.pool; symbols = u.symbols; strings = u.strings; names = u.names; file_names = u.filenames; files = u.files; lines = u.lines }

-- with the visits of the LVAR walk
abbrev pub counts_of : Used → format.Counts
counts_of u = record { rows = nine_of u; visits = u.visits }

-- the counts, or the refusal's number, with the tables
abbrev pub loaded_of : Result Used Refusal → format.Words → format.Loaded
loaded_of r t = record { answer = answer_as counts_of r; tables = t }

-- the allowance that a caller gives, and that of the inner loader's limits
abbrev pub allowance_of : Given → Allowance
allowance_of a = allowance a.bytes a.records

abbrev pub allowed_by : Limits → Allowance
allowed_by l = allowance l.bytes l.allowed

-- what the inner loader answers, and what the tables hold afterwards
abbrev pub load_within : Limits → List ℕ → format.Nine → format.Loaded
load_within l f m = format.laid m (format.loading_within l.most (allowed_by l) f m)
