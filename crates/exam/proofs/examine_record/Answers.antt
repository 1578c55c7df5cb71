-- `exam::examine_record` meets its contract.
-- Assumes nothing.
use mathlib.Core.Path.{refl, ◌∙◌}
use Rattle.examine_list.specs.Full.{bytes_of}
use Rattle.exam.proofs.Join.{record_is}
use Rattle.exam.proofs.examine_record.Goals as goal

pub returns : goal.returns
returns c =
    let a = c.args in
    let t = a.pattern.now in
    let fits = t.fits.each a.r c.requires.inside in
    c.examine_part.ensures
    ∙ record_is (bytes_of a.permitted.now.answers) t.file.now t.records.now t.handlers.now t.lines.now a.r fits _ _ _ _ _ _ c.word.result c.saturating_sub.result
    c.saturating_sub-2.result c.word-place.ensures.0 c.word.ensures.0 refl c.word-h.ensures.0 c.word-2.ensures.0 c.word-l.ensures.0 c.word-3.ensures.0
