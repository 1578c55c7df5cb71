-- Load: a file's reading and lent tables of given sizes. "14: a needed row is beyond its lent table or the 1,024 records": what was read is what
-- was needed, so 14 is met where that does not fit; else the load ends as the reading does. Paper 02: a record's row has its depth and
-- parent, a); the answer carries the visits, m); a caller's allowance is an argument, h).
-- Assumes nothing.
use Rattle.std.specs.Prelude.{ℕ, ◌+◌, ◌/◌, Bool, cond, ◌&&◌, List, [], ◌∷◌, ◌++◌, leb, length, get_or, drop}
use Rattle.std.proofs.Math.Option.{Option, none, some}
use Rattle.format.specs.Bytes.{Answer, ok, refused, on_answer}
use Rattle.format.specs.Reading.{Part}
use Rattle.format.specs.Rows.{range, RecordRow, HandlerRow, PoolRow, TextRow, NameRow, FileRow, LineRow, record_words, handler_words}
use Rattle.format.specs.Rows.{pool_words, text_words, name_words, file_words, line_words, table_of, record_width}
use Rattle.format.specs.Irep.{Rec}
use Rattle.format.specs.Tree.{Node, alone, nodes}
use Rattle.format.specs.Walk.{rlens, visits}
use Rattle.format.specs.Debug.{File}
use Rattle.format.specs.Allowance.{Allowance, desktop, granted}
use Rattle.format.specs.File.{Content, nothing, file_reading}

-- lists one after another
abbrev pub joined : {A : Type 0} → List (List A) → List A
joined [] = []
joined (l ∷ ls) = l ++ joined ls

abbrev pub gathered : {A B : Type 0} → (A → List B) → List A → List B
gathered f [] = []
gathered f (a ∷ as') = f a ++ gathered f as'

abbrev pub or_none : {A : Type 0} → Option (List A) → List A
or_none none = []
or_none (some l) = l

-- the lists of what was read: records, and for each record its names and its debug files
abbrev pub records_of : Content → List Rec
records_of c = or_none c.irep

abbrev pub strings_of : Content → List TextRow
strings_of c = elim c.lvar [ none ↦ [] | some l ↦ l.strings ]

abbrev pub names_of : Content → List (List NameRow)
names_of c = elim c.lvar [ none ↦ [] | some l ↦ l.names ]

abbrev pub file_names_of : Content → List TextRow
file_names_of c = elim c.dbg [ none ↦ [] | some d ↦ d.file_names ]

abbrev pub files_of : Content → List (List File)
files_of c = elim c.dbg [ none ↦ [] | some d ↦ d.files ]

-- Paper 02, a): each record's depth and parent, "by the walk over the rlens, with or without LVAR"
abbrev pub nodes_of : Content → List Node
nodes_of c = nodes (rlens (records_of c))

-- "The record's map joins its files' maps."
abbrev pub map_of_files : List File → List LineRow
map_of_files fs = gathered (λ f. f.lines) fs

-- the rows of six tables that stand before a record's own
pub record Before : Type 0 where
  pub handlers : ℕ
  pub pool : ℕ
  pub symbols : ℕ
  pub names : ℕ
  pub files : ℕ
  pub lines : ℕ

abbrev pub start : Before
start = record { handlers = 0; pool = 0; symbols = 0; names = 0; files = 0; lines = 0 }

abbrev pub past : Before → Rec → List NameRow → List File → Before
past b r ns fs =
    record {
      handlers = b.handlers + length r.body.handlers;
      pool = b.pool + length r.body.pool;
      symbols = b.symbols + length r.body.symbols;
      names = b.names + length ns;
      files = b.files + length fs;
      lines = b.lines + length (map_of_files fs);
    }

abbrev pub record_row : Before → Rec → List NameRow → List File → Node → RecordRow
record_row b r ns fs v =
    record {
      size = r.head.size;
      nlocals = r.head.nlocals;
      nregs = r.head.nregs;
      rlen = r.head.rlen;
      clen = r.head.clen;
      ilen = r.head.ilen;
      place = r.place;
      handlers = range b.handlers (length r.body.handlers);
      pool = range b.pool (length r.body.pool);
      symbols = range b.symbols (length r.body.symbols);
      names = range b.names (length ns);
      files = range b.files (length fs);
      lines = range b.lines (length (map_of_files fs));
      depth = v.depth;
      parent = v.parent;
    }

-- a record that no walk visited has no names, no debug files and no parent
abbrev pub record_rows : Before → List Rec → List (List NameRow) → List (List File) → List Node → List RecordRow
record_rows b [] nss fss vs = []
record_rows b (r ∷ rs) nss fss vs =
    record_row b r (get_or nss 0 []) (get_or fss 0 []) (get_or vs 0 alone)
    ∷ record_rows (past b r (get_or nss 0 []) (get_or fss 0 [])) rs (drop 1 nss) (drop 1 fss) (drop 1 vs)

abbrev pub file_rows : ℕ → List File → List FileRow
file_rows n [] = []
file_rows n (f ∷ fs) = record { start = f.start; name = f.name; lines = range n (length f.lines) } ∷ file_rows (n + length f.lines) fs

-- the rows of the nine tables
pub record Tables : Type 0 where
  pub records : List RecordRow
  pub handlers : List HandlerRow
  pub pool : List PoolRow
  pub symbols : List TextRow
  pub strings : List TextRow
  pub names : List NameRow
  pub file_names : List TextRow
  pub files : List FileRow
  pub lines : List LineRow

abbrev pub tables_of : Content → Tables
tables_of c =
    record {
      records = record_rows start (records_of c) (names_of c) (files_of c) (nodes_of c);
      handlers = gathered (λ r. r.body.handlers) (records_of c);
      pool = gathered (λ r. r.body.pool) (records_of c);
      symbols = gathered (λ r. r.body.symbols) (records_of c);
      strings = strings_of c;
      names = joined (names_of c);
      file_names = file_names_of c;
      files = file_rows 0 (joined (files_of c));
      lines = map_of_files (joined (files_of c));
    }

-- numbers of words, or of rows, of the nine tables
pub record Nine : Type 0 where
  pub records : ℕ
  pub handlers : ℕ
  pub pool : ℕ
  pub symbols : ℕ
  pub strings : ℕ
  pub names : ℕ
  pub file_names : ℕ
  pub files : ℕ
  pub lines : ℕ

-- "Load answers how many rows each table uses."
abbrev pub used : Tables → Nine
used t =
    record {
      records = length t.records;
      handlers = length t.handlers;
      pool = length t.pool;
      symbols = length t.symbols;
      strings = length t.strings;
      names = length t.names;
      file_names = length t.file_names;
      files = length t.files;
      lines = length t.lines;
    }

-- Paper 02, m): "the number of visits that the LVAR walk made. .. Without an LVAR section it is 0". DBG's walk is not counted.
abbrev pub visits_of : Content → ℕ
visits_of c = elim c.lvar [ none ↦ 0 | some _ ↦ visits (records_of c) 1 ]

-- "The load result carries the number of visits": the rows used, and the visits
pub record Counts : Type 0 where
  pub rows : Nine
  pub visits : ℕ

abbrev pub counts : Content → Counts
counts c = record { rows = used (tables_of c); visits = visits_of c }

-- every row that was needed is there: in tables of so many words, and among so many records
unfoldable pub fits : ℕ → Nine → Nine → Bool
fits limit m u =
    leb u.records limit
    && leb u.records (m.records / record_width)
    && leb u.handlers (m.handlers / 4)
    && leb u.pool (m.pool / 3)
    && leb u.symbols (m.symbols / 2)
    && leb u.strings (m.strings / 2)
    && leb u.names m.names
    && leb u.file_names (m.file_names / 2)
    && leb u.files (m.files / 4)
    && leb u.lines (m.lines / 2)

-- how a load of a reading ends: with what was read, or refused
unfoldable pub ending : ℕ → Nine → Part Content → Answer Content
ending limit m p =
    cond (fits limit m (used (tables_of p.it))) (on_answer p.end (λ _. ok p.it) refused) (refused 14)

-- a file under an allowance, among so many records
unfoldable pub loading_within : ℕ → Allowance → List ℕ → Nine → Answer Content
loading_within most a f m = ending most m (file_reading f a)

-- Paper 02, h): "One loader serves both, with the allowance as an argument".
abbrev pub loading : List ℕ → Nine → Allowance → Answer Content
loading f m a = loading_within desktop.records (granted a) f m

-- the contents of the nine tables
pub record Words : Type 0 where
  pub records : List ℕ
  pub handlers : List ℕ
  pub pool : List ℕ
  pub symbols : List ℕ
  pub strings : List ℕ
  pub names : List ℕ
  pub file_names : List ℕ
  pub files : List ℕ
  pub lines : List ℕ

abbrev pub words_of : Nine → Tables → Words
words_of m t =
    record {
      records = table_of record_words m.records t.records;
      handlers = table_of handler_words m.handlers t.handlers;
      pool = table_of pool_words m.pool t.pool;
      symbols = table_of text_words m.symbols t.symbols;
      strings = table_of text_words m.strings t.strings;
      names = table_of name_words m.names t.names;
      file_names = table_of text_words m.file_names t.file_names;
      files = table_of file_words m.files t.files;
      lines = table_of line_words m.lines t.lines;
    }

-- what a load answers, and what the tables hold afterwards: after a refusal zeros alone
pub record Loaded : Type 0 where
  pub answer : Answer Counts
  pub tables : Words

abbrev pub laid : Nine → Answer Content → Loaded
laid m a =
    on_answer a
    (λ c. record { answer = ok (counts c); tables = words_of m (tables_of c) })
    (λ e. record { answer = refused e; tables = words_of m (tables_of nothing) })

unfoldable pub load : List ℕ → Nine → Allowance → Loaded
load f m a = laid m (loading f m a)
