-- `examine_kept::examine_kept` meets its contract.
-- Assumes nothing.
use mathlib.Core.Path.{◌≡◌, ap, ◌∙◌}
use borrow.Author.Rules.{rules}
use Rattle.std.specs.Prelude.{Ok}
use Rattle.format.specs.Load.{load}
use Rattle.tables.specs.Tables.{words_of}
use Rattle.refusal.specs.Number.{refusal_of}
use Rattle.rite.specs.Answers.{sizes, loaded_of, allowance_of}
use Rattle.examine_asked.specs.Asked.{examine_asked}
use Rattle.examine_kept.proofs.Keeping.{given, fits_given, kept_rows, kept_met, kept_refused}
use Rattle.examine_kept.proofs.examine_kept.Goals as goal

pub pattern_in-pattern-requires : goal.pattern_in-pattern-requires
pattern_in-pattern-requires c =
    let a = c.args in
    let u = c.in_ok-used.used in
    let w = words_of c.load.new.t in
    let m = sizes (words_of a.t.now) in
    let e : loaded_of (Ok u) w ≡ load a.f.now m (allowance_of a.a) = search rules in
    fits_given a.f.now m (allowance_of a.a) w u (given a.f.now m (allowance_of a.a) w u e)

pub returns-in_err-used-clause-kept : goal.returns-in_err-used-clause-kept
returns-in_err-used-clause-kept c =
    let a = c.args in
    let w = words_of c.load.new.t in
    let m = sizes (words_of a.t.now) in
    search (rules, kept_refused a.f.now m (allowance_of a.a) w a.asked a.permitted.now)

pub returns-in_err-map_err-clause-kept : goal.returns-in_err-map_err-clause-kept
returns-in_err-map_err-clause-kept c =
    let a = c.args in
    let u = c.in_ok-used.used in
    let w = words_of c.load.new.t in
    let m = sizes (words_of a.t.now) in
    let e : loaded_of (Ok u) w ≡ load a.f.now m (allowance_of a.a) = search rules in
    let k = c.examine_asked.ensures ∙ ap (examine_asked a.asked a.permitted.now) c.pattern_in-pattern.ensures in
    search (rules, kept_met a.f.now m (allowance_of a.a) w u (given a.f.now m (allowance_of a.a) w u e) a.asked a.permitted.now (refusal_of c.examine_asked.result) k)

pub returns-clause-kept : goal.returns-clause-kept
returns-clause-kept c =
    let a = c.args in
    let u = c.in_ok-used.used in
    let w = words_of c.load.new.t in
    let m = sizes (words_of a.t.now) in
    let e : loaded_of (Ok u) w ≡ load a.f.now m (allowance_of a.a) = search rules in
    let k = c.examine_asked.ensures ∙ ap (examine_asked a.asked a.permitted.now) c.pattern_in-pattern.ensures in
    kept_rows a.f.now m (allowance_of a.a) w u (given a.f.now m (allowance_of a.a) w u e) a.asked a.permitted.now (refusal_of c.examine_asked.result) k (search rules)
