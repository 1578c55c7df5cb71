-- A file's tests, and its sections in turn as steps over a place, how far reading has come, and nine lent tables.
-- Assumes nothing.
use Rattle.std.specs.Prelude.{ℕ, zero, suc, ◌+◌, cond, List, eqb, length, drop, Option, Some, None}
use Rattle.format.specs.Bytes.{Answer, ok, refused, on_answer, has}
use Rattle.format.specs.File.{file_refusal}
use Rattle.format.specs.Load.{Words}
use Rattle.irep.specs.declared.Limits.{Limits}
use Rattle.sections.specs.declared.Used.{Used}
use Rattle.sections.specs.declared.Progress.{Progress}
use Rattle.sections.specs.declared.Section.{Section}
use Rattle.marks.specs.declared.Mark.{Mark}
use Rattle.marks.specs.declared.Mark.TheVariants as mark_is
use Rattle.marks.specs.Marks.{mark_of}
use Rattle.sections.specs.Sections.{begun, used_of, IrepOut, LvarOut, DbgOut, irep_out_of, lvar_out_of, dbg_out_of, end_of}
pub use Rattle.tables.specs.Tables.{words}

-- an answer with the nine tables as they are then
pub record Out (A : Type 0) : Type 0 where
  pub ans : Answer A
  pub tables : Words

abbrev pub out : {A : Type 0} → Answer A → Words → Out A
out a t = record { ans = a; tables = t }

-- the nine tables with those of one section
abbrev pub irep_in : Words → IrepOut → Words
irep_in t o = words o.records o.handlers o.pool o.symbols t.strings t.names t.file_names t.files t.lines

abbrev pub lvar_in : Words → LvarOut → Words
lvar_in t o = words o.records t.handlers t.pool t.symbols o.strings o.names t.file_names t.files t.lines

abbrev pub dbg_in : Words → DbgOut → Words
dbg_in t o = words o.records t.handlers t.pool t.symbols t.strings t.names o.filenames o.files o.lines

-- the section at a place, by its mark
abbrev pub by_mark : List ℕ → Limits → ℕ → Words → Progress → Option Mark → Out Section
by_mark f limit at t p (Some mark_is.Irep) = let o = irep_out_of (drop at f) at limit t.records t.handlers t.pool t.symbols p in out o.ans (irep_in t o)
by_mark f limit at t p (Some mark_is.Lvar) = let o = lvar_out_of (drop at f) at t.records t.strings t.names p in out o.ans (lvar_in t o)
by_mark f limit at t p (Some mark_is.Dbg) = let o = dbg_out_of (drop at f) at t.records t.file_names t.files t.lines p in out o.ans (dbg_in t o)
by_mark f limit at t p (Some mark_is.End) = out (end_of (drop at f) p) t
by_mark f limit at t p None = out (refused 5) t

unfoldable pub section_out : List ℕ → Limits → ℕ → Words → Progress → Out Section
section_out f limit at t p = by_mark f limit at t p (mark_of f at)

-- at most n sections from a place on, until fewer than 4 bytes are left
unfoldable pub sections_out : List ℕ → Limits → ℕ → ℕ → Words → Progress → Out Used
sections_out f limit zero at t p = out (ok (used_of p)) t
sections_out f limit (suc n) at t p =
    cond (has f at 4)
    (let o = section_out f limit at t p in
    on_answer o.ans (λ s. sections_out f limit n (at + s.size) o.tables s.progress) (λ e. out (refused e) o.tables))
    (out (ok (used_of p)) t)

-- a file's tests, then its sections
unfoldable pub file_out : List ℕ → Limits → Words → Out Used
file_out f limit t =
    let n = file_refusal f limit.bytes in
    cond (eqb n 0) (sections_out f limit (length f) 20 t begun) (out (refused n) t)
