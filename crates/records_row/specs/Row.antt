-- A record's row as a struct, and what the words of a record table say of it.
-- Assumes nothing.
use Rattle.std.specs.Prelude.{ℕ, cond, List, [], ◌∷◌}
use Rattle.format.specs.Rows.{RecordRow, record_width}
use Rattle.format.specs.Lookup.{record_row_at, has_row}
use Rattle.records_row.specs.declared.Record.{Record}

-- the struct of a row
abbrev pub struct_of : RecordRow → Record
struct_of r =
    record {
      size = r.size;
      nlocals = r.nlocals;
      nregs = r.nregs;
      rlen = r.rlen;
      clen = r.clen;
      ilen = r.ilen;
      place = r.place;
      handlers = r.handlers.first;
      nhandlers = r.handlers.number;
      pool = r.pool.first;
      npool = r.pool.number;
      symbols = r.symbols.first;
      nsymbols = r.symbols.number;
      names = r.names.first;
      nnames = r.names.number;
      files = r.files.first;
      nfiles = r.files.number;
      lines = r.lines.first;
      nlines = r.lines.number;
      depth = r.depth;
      parent = r.parent;
    }

-- the words of a struct, in the order of a row's
abbrev pub struct_words : Record → List ℕ
struct_words r =
    r.size ∷ r.nlocals ∷ r.nregs ∷ r.rlen ∷ r.clen ∷ r.ilen ∷ r.place
    ∷ r.handlers ∷ r.nhandlers
    ∷ r.pool ∷ r.npool
    ∷ r.symbols ∷ r.nsymbols
    ∷ r.names ∷ r.nnames
    ∷ r.files ∷ r.nfiles
    ∷ r.lines ∷ r.nlines
    ∷ r.depth ∷ r.parent
    ∷ []

unfoldable pub zero_row : Record
zero_row = struct_of (record_row_at [] 0)

-- row i of a record table, and zeros past its last whole row
unfoldable pub row_at : List ℕ → ℕ → Record
row_at t i = cond (has_row record_width t i) (struct_of (record_row_at t i)) zero_row
