-- `rite::load_within` meets its contract.
-- Assumes nothing.
use Rattle.std.proofs.Common.{rules, sym, ap, ◌∙◌, arith}
use Rattle.format.specs.File.{nothing}
use Rattle.format.specs.Load as format
use Rattle.format.specs.Load.{tables_of}
use Rattle.format.proofs.File.{accepted}
use Rattle.refusal.specs.Number.{number}
use Rattle.tables.specs.Tables.{words_of}
use Rattle.file.proofs.Laws.{file_read, file_refused}
use Rattle.rite.proofs.Whole.{zero_words, same_sizes, load_holds, load_went, load_refused}
use Rattle.rite.proofs.load_within.Goals as goal

pub returns-in_err-check_file-clause-loaded : goal.returns-in_err-check_file-clause-loaded
returns-in_err-check_file-clause-loaded c =
    let a = c.args in
    let z = zero_words (words_of a.t.now) (words_of c.clear.new.self) c.clear.ensures.zeros in
    let r = c.in_err-check_file.field-0.0 in
    let e = file_refused a.f.now a.limits (words_of c.clear.new.self) r c.in_err-check_file.ensures in
    let w = words_of c.clear.new.self in
    let done = load_refused a.limits c.requires a.f.now (λ i. omega (arith, c.type_inv.f i)) (words_of a.t.now) w w z (number r) e w z in
    search rules

pub read_sections-requires : goal.read_sections-requires
read_sections-requires c = (accepted c.args.f.now c.args.limits.bytes (sym c.in_ok-check_file.ensures)).small

pub link_parents-requires : goal.link_parents-requires
link_parents-requires c =
    let a = c.args in
    let z = zero_words (words_of a.t.now) (words_of c.clear.new.self) c.clear.ensures.zeros in
    let e = file_read a.f.now a.limits (words_of c.clear.new.self) c.in_ok-check_file.ensures _ c.in-Ok.ensures.sections in
    let holds = load_holds a.limits c.requires a.f.now (λ i. omega (arith, c.type_inv.f i)) (words_of a.t.now) (words_of c.clear.new.self) (words_of c.read_sections.new.t) z c.in-Ok.used e in
    (omega (arith, holds.held), omega (arith, holds.few))

pub returns-in-Ok-clause-loaded : goal.returns-in-Ok-clause-loaded
returns-in-Ok-clause-loaded c =
    let a = c.args in
    let z = zero_words (words_of a.t.now) (words_of c.clear.new.self) c.clear.ensures.zeros in
    let e = file_read a.f.now a.limits (words_of c.clear.new.self) c.in_ok-check_file.ensures _ c.in-Ok.ensures.sections in
    rw c.link_parents.ensures
    (load_went a.limits c.requires a.f.now (λ i. omega (arith, c.type_inv.f i)) (words_of a.t.now) (words_of c.clear.new.self) (words_of c.read_sections.new.t) z c.in-Ok.used e)

pub returns-in-Err-clause-loaded : goal.returns-in-Err-clause-loaded
returns-in-Err-clause-loaded c =
    let a = c.args in
    let z = zero_words (words_of a.t.now) (words_of c.clear.new.self) c.clear.ensures.zeros in
    let e = file_read a.f.now a.limits (words_of c.clear.new.self) c.in_ok-check_file.ensures _ c.in-Err.ensures.sections in
    let y = zero_words (words_of c.read_sections.new.t) (words_of c.clear-in-Err.new.self) c.clear-in-Err.ensures.zeros in
    let same = same_sizes _ _ c.read_sections.ensures.same.lengths ∙ same_sizes _ _ c.clear.ensures.same.lengths in
    load_refused a.limits c.requires a.f.now (λ i. omega (arith, c.type_inv.f i)) (words_of a.t.now) (words_of c.clear.new.self) (words_of c.read_sections.new.t) z (number c.in-Err.e) e
    (words_of c.clear-in-Err.new.self) (y ∙ ap (λ m. format.words_of m (tables_of nothing)) same)
