-- `run::follow_tables` meets its contract.
-- Assumes nothing.
use native.Mathlib.Omega.{arith}
use lib.ListN.{length}
use Rattle.exam.specs.Loaded.{pattern_of}
use Rattle.run.proofs.Walks.{out_bad, out_ran}
use Rattle.run.proofs.follow_tables.Goals as goal

pub returns-in-Err : goal.returns-in-Err
returns-in-Err c =
    let a = c.args in
    rw c.in-Err.ensures.1
    (out_bad (pattern_of a.pattern.now) a.choices.now (length a.frames.now) (length c.walk.new.frames)
    c.in-Err.ensures.0 c.clear-in-Err.ensures (omega (arith, c.clear.auto.t, c.walk.auto.frames)))

pub returns-in-Ok : goal.returns-in-Ok
returns-in-Ok c =
    let a = c.args in
    out_ran (pattern_of a.pattern.now) a.choices.now (length a.frames.now) c.in-Ok.ensures
    (omega (arith, c.clear.auto.t, c.walk.auto.frames)) c.standing_of.ensures
