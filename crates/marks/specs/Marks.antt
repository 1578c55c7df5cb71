-- The mark of a section.
-- Assumes nothing.
use Rattle.std.specs.Prelude.{ℕ, cond, List, Option, Some, None}
use Rattle.format.specs.Headers as mark
use Rattle.format.specs.File.{is_mark}
use Rattle.marks.specs.declared.Mark.{Mark}
use Rattle.marks.specs.declared.Mark.TheVariants as mark_is

-- the mark at a place, if there is one
unfoldable pub mark_of : List ℕ → ℕ → Option Mark
mark_of f at =
    cond (is_mark f at mark.irep) (Some mark_is.Irep)
    (cond (is_mark f at mark.lvar) (Some mark_is.Lvar)
    (cond (is_mark f at mark.dbg) (Some mark_is.Dbg)
    (cond (is_mark f at mark.end) (Some mark_is.End) None)))
