-- `follow::follow` meets its contract.
-- Assumes nothing.
use mathlib.Core.Path.{ap, ◌∙◌}
use native.Mathlib.Omega.{arith}
use lib.ListN.{length}
use Rattle.format.specs.File.{nothing}
use Rattle.format.specs.Load as format
use Rattle.format.specs.Exam.{examine_pattern}
use Rattle.run.specs.Follow.{follow_out}
use Rattle.tables.specs.Tables.{words_of}
use Rattle.rite.specs.Answers.{sizes, allowance_of}
use Rattle.rite.proofs.Whole.{zero_words, same_sizes}
use Rattle.follow.proofs.Passed.{same_number, ready, room, stands, refuses, stopped}
use Rattle.follow.proofs.follow.Goals as goal

pub pattern_in-pattern-requires : goal.pattern_in-pattern-requires
pattern_in-pattern-requires c =
    let a = c.args in
    let m = sizes (words_of a.t.now) in
    let w = words_of c.load_passing.new.t in
    (ready a.f.now m (allowance_of a.a) a.permitted.now w c.in-Ok.used (length a.frames.now) c.in-Ok.ensures.loaded).fits

pub follow_tables-requires : goal.follow_tables-requires
follow_tables-requires c =
    let a = c.args in
    let m = sizes (words_of a.t.now) in
    let w = words_of c.load_passing.new.t in
    let n = length a.frames.now in
    let p = c.pattern_in-pattern.result in
    let r = ready a.f.now m (allowance_of a.a) a.permitted.now w c.in-Ok.used n c.in-Ok.ensures.loaded in
    record {
      ready = record { fits = p.fits; list = r.list; passes = ap (examine_pattern r.list) c.pattern_in-pattern.ensures ∙ r.passes };
      n_in_bounds = omega (arith, same_number _ _ _ _ _ _ _ _ _ _ c.pattern_in-pattern.ensures, room a.f.now m (allowance_of a.a) a.permitted.now w c.in-Ok.used n c.in-Ok.ensures.loaded);
    }

pub returns-in-Ok-follow_tables-clause-followed : goal.returns-in-Ok-follow_tables-clause-followed
returns-in-Ok-follow_tables-clause-followed c =
    let a = c.args in
    let m = sizes (words_of a.t.now) in
    let w = words_of c.load_passing.new.t in
    let n = length a.frames.now in
    let o = c.in-Ok-follow_tables.ensures ∙ ap (λ p. follow_out p a.choices.now n) c.pattern_in-pattern.ensures in
    stands a.f.now m (allowance_of a.a) a.permitted.now w c.in-Ok.used n c.in-Ok.ensures.loaded a.choices.now c.follow_tables.new.frames _ o

pub returns-in-Err-follow_tables-clause-followed : goal.returns-in-Err-follow_tables-clause-followed
returns-in-Err-follow_tables-clause-followed c =
    let a = c.args in
    let m = sizes (words_of a.t.now) in
    let w = words_of c.load_passing.new.t in
    let z = words_of c.clear.new.self in
    let n = length a.frames.now in
    let zeros = zero_words w z c.clear.ensures.zeros ∙ ap (λ x. format.words_of x (format.tables_of nothing)) (same_sizes _ _ c.load_passing.ensures.same.lengths) in
    let o = c.in-Err-follow_tables.ensures ∙ ap (λ p. follow_out p a.choices.now n) c.pattern_in-pattern.ensures in
    refuses a.f.now m (allowance_of a.a) a.permitted.now w c.in-Ok.used n c.in-Ok.ensures.loaded a.choices.now c.follow_tables.new.frames _ o z zeros

pub returns-in-Err-clause-followed : goal.returns-in-Err-clause-followed
returns-in-Err-clause-followed c =
    let a = c.args in
    let m = sizes (words_of a.t.now) in
    let w = words_of c.load_passing.new.t in
    stopped a.f.now m (allowance_of a.a) a.permitted.now w c.in-Err.e (length a.frames.now) a.choices.now c.in-Err.ensures.loaded c.clear-in-Err.new.t c.clear-in-Err.ensures
