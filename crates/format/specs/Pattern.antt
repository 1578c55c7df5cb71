-- A loaded pattern as examination and run see it: records that hold lists, so that neither sees a place or a table; and where an instruction
-- begins. Paper 01, 'The run'.
-- Assumes nothing.
use Rattle.std.specs.Prelude.{ℕ, zero, suc, ◌<◌, Bool, true, false, ◌&&◌, List, [], ◌∷◌, map, leb, length, get_or, take, drop}
use Rattle.format.specs.Rows.{HandlerRow, LineRow}
use Rattle.format.specs.Irep.{Rec}
use Rattle.format.specs.Debug.{File}
use Rattle.format.specs.File.{Content}
use Rattle.format.specs.Load.{records_of, files_of, map_of_files}
use Rattle.format.specs.Insn.{rest, next, jump, target}

-- a record: its registers, children, constants and symbols by their numbers, its instruction bytes, its handlers' targets, its line map
pub record Record : Type 0 where
  pub nregs : ℕ
  pub rlen : ℕ
  pub npool : ℕ
  pub nsyms : ℕ
  pub code : List ℕ
  pub handlers : List ℕ
  pub lines : List LineRow

abbrev pub Pattern : Type 0
Pattern = List Record

-- a record that was read from the file f, with its debug files
abbrev pub record_of : List ℕ → Rec → List File → Record
record_of f r fs =
    record {
      nregs = r.head.nregs;
      rlen = r.head.rlen;
      npool = length r.body.pool;
      nsyms = length r.body.symbols;
      code = take r.head.ilen (drop r.place f);
      handlers = map (λ (h : HandlerRow). h.target) r.body.handlers;
      lines = map_of_files fs;
    }

abbrev pub records_with : List ℕ → List Rec → List (List File) → Pattern
records_with f [] fss = []
records_with f (r ∷ rs) fss = record_of f r (get_or fss 0 []) ∷ records_with f rs (drop 1 fss)

abbrev pub pattern_of : List ℕ → Content → Pattern
pattern_of f c = records_with f (records_of c) (files_of c)

abbrev pub ilen : Record → ℕ
ilen r = length r.code

abbrev pub clen : Record → ℕ
clen r = length r.handlers

abbrev pub blank : Record
blank = record { nregs = 0; rlen = 0; npool = 0; nsyms = 0; code = []; handlers = []; lines = [] }

abbrev pub rec_at : Pattern → ℕ → Record
rec_at p r = get_or p r blank

abbrev pub rlens : Pattern → List ℕ
rlens p = map (λ (r : Record). r.rlen) p

-- "In a record an instruction begins at 0, and at each next offset that reading from 0 reaches, while below ilen."
pub data Begins (c : List ℕ) : ℕ → Type 0 where
  at_zero : 0 < length c → Begins c 0
  at_next : {o : ℕ} → Begins c o → next c o < length c → Begins c (next c o)

-- The same as a test over the bytes in turn: `left` counts the bytes still to pass of the instruction before.
unfoldable pub reach : List ℕ → ℕ → ℕ → Bool
reach [] left o = false
reach (b ∷ bs) zero zero = true
reach (b ∷ bs) zero (suc o) = reach bs (rest b bs) o
reach (b ∷ bs) (suc left) zero = false
reach (b ∷ bs) (suc left) (suc o) = reach bs left o

abbrev pub begins : List ℕ → ℕ → Bool
begins c o = reach c 0 o

-- a jump's target is a place where an instruction begins
unfoldable pub lands : List ℕ → ℕ → Bool
lands c o = leb 65536 (jump c o) && begins c (target c o)
