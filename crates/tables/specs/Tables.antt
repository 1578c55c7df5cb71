-- The contents of nine tables, that they are still the same tables, and that they are zeros.
-- Assumes nothing.
use Rattle.std.specs.Prelude.{ℕ, ◌≡◌, List, length, replicate}
use Rattle.format.specs.Load.{Words}
use Rattle.tables.specs.declared.Tables.{Tables}

-- the contents of nine tables
abbrev pub words : List ℕ → List ℕ → List ℕ → List ℕ → List ℕ → List ℕ → List ℕ → List ℕ → List ℕ → Words
words a b c d e g h i j = record { records = a; handlers = b; pool = c; symbols = d; strings = e; names = g; file_names = h; files = i; lines = j }

abbrev pub words_of : Tables → Words
words_of t =
    record {
      records = t.records.now;
      handlers = t.handlers.now;
      pool = t.pool.now;
      symbols = t.symbols.now;
      strings = t.strings.now;
      names = t.names.now;
      file_names = t.filenames.now;
      files = t.files.now;
      lines = t.lines.now;
    }

-- as many words in each table
pub record Lengths (t t' : Words) : Type 0 where
  pub records : length t'.records ≡ length t.records
  pub handlers : length t'.handlers ≡ length t.handlers
  pub pool : length t'.pool ≡ length t.pool
  pub symbols : length t'.symbols ≡ length t.symbols
  pub strings : length t'.strings ≡ length t.strings
  pub names : length t'.names ≡ length t.names
  pub file_names : length t'.file_names ≡ length t.file_names
  pub files : length t'.files ≡ length t.files
  pub lines : length t'.lines ≡ length t.lines

-- each is the slice that was lent, as long as it was
pub record Same (t t' : Tables) : Type 0 where
  pub records : t'.records.ghost_name ≡ t.records.ghost_name
  pub handlers : t'.handlers.ghost_name ≡ t.handlers.ghost_name
  pub pool : t'.pool.ghost_name ≡ t.pool.ghost_name
  pub symbols : t'.symbols.ghost_name ≡ t.symbols.ghost_name
  pub strings : t'.strings.ghost_name ≡ t.strings.ghost_name
  pub names : t'.names.ghost_name ≡ t.names.ghost_name
  pub file_names : t'.filenames.ghost_name ≡ t.filenames.ghost_name
  pub files : t'.files.ghost_name ≡ t.files.ghost_name
  pub lines : t'.lines.ghost_name ≡ t.lines.ghost_name
  pub lengths : Lengths (words_of t) (words_of t')

-- every table after is zeros, as many as before
pub record Zeros (t t' : Words) : Type 0 where
  pub records : t'.records ≡ replicate (length t.records) 0
  pub handlers : t'.handlers ≡ replicate (length t.handlers) 0
  pub pool : t'.pool ≡ replicate (length t.pool) 0
  pub symbols : t'.symbols ≡ replicate (length t.symbols) 0
  pub strings : t'.strings ≡ replicate (length t.strings) 0
  pub names : t'.names ≡ replicate (length t.names) 0
  pub file_names : t'.file_names ≡ replicate (length t.file_names) 0
  pub files : t'.files ≡ replicate (length t.files) 0
  pub lines : t'.lines ≡ replicate (length t.lines) 0
