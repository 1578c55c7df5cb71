-- `file::read_sections` meets its contract.
-- Assumes nothing.
use Rattle.std.proofs.Common.{rules, true, ◌≡◌, ◌+◌, ◌-◌, length, ◌∙◌, arith}
use borrow.Author.Tests.{lt-leb, le-leb}
use Rattle.format.specs.Bytes.{has}
use Rattle.tables.specs.Tables.{words_of}
use Rattle.sections.specs.Sections.{begun}
use Rattle.file.proofs.Laws.{same_here, same_again, sections_go, sections_short, sections_done}
use Rattle.file.proofs.read_sections.Goals.{else-loop-i-test, then-loop-i-test+then-rest-lt4}
use Rattle.file.proofs.read_sections.Goals as goal

pub loop-i-init : goal.loop-i-init
loop-i-init c =
    let k : length c.args.f.now - 0 ≡ length c.args.f.now = omega arith in
    let e : c.default-p.result ≡ begun = search rules in (
      same_here c.args.t.now,
      rw (k, e),
    )

pub returns-in_err-section-clause-same : goal.returns-in_err-section-clause-same
returns-in_err-section-clause-same c = same_again _ _ _ c.loop-i.invariant.0 c.read_section.ensures.same

pub returns-in_err-section-clause-sections : goal.returns-in_err-section-clause-sections
returns-in_err-section-clause-sections c =
    let l = c.loop-i in
    let there : has c.args.f.now l.at 4 ≡ true = rw (← c.rest.ensures) (le-leb _ _ c.if-rest-lt4.false) in
    let e = sections_go c.args.f.now c.args.limit (length c.args.f.now - l._i) l.at (words_of l.t) l.p _ (omega arith) there c.in_err-section.ensures.section ∙ l.invariant.1 in
    search rules

pub loop-i-preserved : goal.loop-i-preserved
loop-i-preserved c =
    let l = c.loop-i in
    let there : has c.args.f.now l.at 4 ≡ true = rw (← c.rest.ensures) (le-leb _ _ c.if-rest-lt4.false) in
    let k : length c.args.f.now - (l._i + 1) ≡ length c.args.f.now - l._i - 1 = omega arith in (
      same_again _ _ _ l.invariant.0 c.read_section.ensures.same,
      rw k (sections_go c.args.f.now c.args.limit (length c.args.f.now - l._i) l.at (words_of l.t) l.p _ (omega arith) there c.in_ok-section.ensures.section ∙ l.invariant.1),
    )

pub returns-clause-same : goal.returns-clause-same
returns-clause-same c = c.loop-i.invariant.0

pub returns-clause-sections : goal.returns-clause-sections
returns-clause-sections c =
    let l = c.loop-i in
    elim c.loop-i-test.branch [
      | else-loop-i-test w ↦ rw c.used.ensures (sections_done c.args.f.now c.args.limit (length c.args.f.now - l._i) l.at (words_of l.t) l.p (omega arith) ∙ l.invariant.1)
      | then-loop-i-test+then-rest-lt4 w ↦
          rw c.used.ensures (sections_short c.args.f.now c.args.limit (length c.args.f.now - l._i) l.at (words_of l.t) l.p (rw (← w.rest.ensures) (lt-leb _ _ w.if-rest-lt4.true)) ∙ l.invariant.1)
    ]
