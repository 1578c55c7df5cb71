-- `file::read_sections` meets its contract: the sections still to come, from here on, end as all of them do.
-- Assumes nothing.
use Rattle.std.proofs.Common.{◌≡◌, ◌-◌, length}
use Rattle.tables.specs.Tables.{words_of, Same}
use Rattle.sections.specs.Sections.{begun}
use Rattle.file.specs.File.{sections_out}
use Rattle.file.proofs.read_sections.Given as goal

abbrev pub invariant-loop-i : goal.invariant-loop-i
invariant-loop-i l =
    Same l.initial.t l.t
    × (sections_out l.f l.limit (length l.f - l._i) l.at (words_of l.t) l.p ≡ sections_out l.f l.limit (length l.f) 20 (words_of l.initial.t) begun)
