-- Each section of a part of a file as a step over how far reading has come and the lent tables that are its own.
-- Assumes nothing.
use Rattle.std.specs.Prelude.{ℕ, cond, List, ltb, length, Option, Some, None}
use Rattle.std.specs.Option.{unwrap_or}
use Rattle.format.specs.Bytes.{Answer, ok, refused, on_answer}
use Rattle.format.specs.File.{end_section}
use Rattle.format.specs.Rows.{record_width}
use Rattle.rows.specs.Table.{row_count}
use Rattle.irep.specs.declared.Limits.{Limits}
use Rattle.irep.specs.declared.Used.{Used as IrepUsed}
use Rattle.irep.specs.Record.{lent, irep_of}
use Rattle.lvar.specs.declared.Used.{Used as LvarUsed}
use Rattle.lvar.specs.Section.{lvar_of}
use Rattle.debug.specs.declared.Used.{Used as DbgUsed}
use Rattle.debug.specs.Section.{tables, debug_of}
use Rattle.sections.specs.declared.Used.{Used}
use Rattle.sections.specs.declared.Progress.{Progress}
use Rattle.sections.specs.declared.Section.{Section}

-- a section of that size, and what has come with it
abbrev pub section : ℕ → Option IrepUsed → Option LvarUsed → Option DbgUsed → Section
section size i l d = record { size = size; progress = record { irep = i; lvar = l; dbg = d } }

-- nothing has come
abbrev pub begun : Progress
begun = record { irep = None; lvar = None; dbg = None }

-- all that is used so far: nothing of a section that has not come
abbrev pub used_of : Progress → Used
used_of p =
    let i = unwrap_or p.irep (record { records = 0; handlers = 0; pool = 0; symbols = 0 }) in
    let l = unwrap_or p.lvar (record { strings = 0; names = 0; visits = 0 }) in
    let d = unwrap_or p.dbg (record { file_names = 0; files = 0; lines = 0 }) in
    record {
      records = i.records;
      handlers = i.handlers;
      pool = i.pool;
      symbols = i.symbols;
      strings = l.strings;
      names = l.names;
      filenames = d.file_names;
      files = d.files;
      lines = d.lines;
      visits = l.visits;
    }

-- "6: a second IREP, LVAR or DBG, or LVAR or DBG before IREP"
abbrev pub once : {A B : Type 0} → Option A → B → B → B
once (Some _) again first = again
once None again first = first

abbrev pub after_irep : {B : Type 0} → Option IrepUsed → B → (IrepUsed → B) → B
after_irep None early k = early
after_irep (Some u) early k = k u

-- an answer with the tables of one section as they are then
pub record IrepOut : Type 0 where
  pub ans : Answer Section
  pub records : List ℕ
  pub handlers : List ℕ
  pub pool : List ℕ
  pub symbols : List ℕ

abbrev pub irep_out : Answer Section → List ℕ → List ℕ → List ℕ → List ℕ → IrepOut
irep_out a rs hs ps ss = record { ans = a; records = rs; handlers = hs; pool = ps; symbols = ss }

unfoldable pub irep_out_of : List ℕ → ℕ → Limits → List ℕ → List ℕ → List ℕ → List ℕ → Progress → IrepOut
irep_out_of f base limit rs hs ps ss p =
    once p.irep (irep_out (refused 6) rs hs ps ss)
    (let o = irep_of f base limit (lent rs hs ps ss) in
    irep_out (on_answer o.ans (λ s. ok (section s.size (Some s.used) p.lvar p.dbg)) refused) o.tabs.records o.tabs.handlers o.tabs.pool o.tabs.symbols)

pub record LvarOut : Type 0 where
  pub ans : Answer Section
  pub records : List ℕ
  pub strings : List ℕ
  pub names : List ℕ

abbrev pub lvar_out : Answer Section → List ℕ → List ℕ → List ℕ → LvarOut
lvar_out a rs ss ns = record { ans = a; records = rs; strings = ss; names = ns }

unfoldable pub lvar_out_of : List ℕ → ℕ → List ℕ → List ℕ → List ℕ → Progress → LvarOut
lvar_out_of f base rs ss ns p =
    after_irep p.irep (lvar_out (refused 6) rs ss ns)
    (λ u.
    once p.lvar (lvar_out (refused 6) rs ss ns)
    (cond (ltb (row_count (length rs) record_width) u.records) (lvar_out (refused 14) rs ss ns)
    (let o = lvar_of f base u.records rs ss ns in
    lvar_out (on_answer o.ans (λ s. ok (section s.size p.irep (Some s.used) p.dbg)) refused) o.records o.strings o.names)))

pub record DbgOut : Type 0 where
  pub ans : Answer Section
  pub records : List ℕ
  pub filenames : List ℕ
  pub files : List ℕ
  pub lines : List ℕ

abbrev pub dbg_out : Answer Section → List ℕ → List ℕ → List ℕ → List ℕ → DbgOut
dbg_out a rs ns fs ls = record { ans = a; records = rs; filenames = ns; files = fs; lines = ls }

unfoldable pub dbg_out_of : List ℕ → ℕ → List ℕ → List ℕ → List ℕ → List ℕ → Progress → DbgOut
dbg_out_of f base rs ns fs ls p =
    after_irep p.irep (dbg_out (refused 6) rs ns fs ls)
    (λ u.
    once p.dbg (dbg_out (refused 6) rs ns fs ls)
    (cond (ltb (row_count (length rs) record_width) u.records) (dbg_out (refused 14) rs ns fs ls)
    (let o = debug_of f base u.records (tables rs ns fs ls) in
    dbg_out (on_answer o.ans (λ s. ok (section s.size p.irep p.lvar (Some s.used))) refused) o.tables.records o.tables.file_names o.tables.files o.tables.lines)))

abbrev pub end_of : List ℕ → Progress → Answer Section
end_of f p = on_answer (end_section f) (λ size. ok (section size p.irep p.lvar p.dbg)) refused
