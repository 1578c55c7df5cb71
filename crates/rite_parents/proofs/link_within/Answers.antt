-- `rite_parents::link_within` meets its contract.
-- Assumes nothing.
use mathlib.Core.Path.{ap, ◌∙◌}
use lib.ListN.{replicate, length-replicate}
use Rattle.rite_parents.specs.Pass.{opened, State, state, steps}
use Rattle.rite_parents.proofs.Join.{steps_are}
use Rattle.rite_parents.proofs.Turns.{rows_go, rows_end}
use Rattle.rite_parents.proofs.link_within.Goals as goal

pub loop-i-preserved : goal.loop-i-preserved
loop-i-preserved g c =
    let r = c.link_record-height in
    let b = c.loop-i in
    let a = c.args in
    let z = replicate g.row.N (opened 0 0) in (
      r.ensures.1,
      rows_go a.n b.i (state b.records b.stack b.height) (state r.new.records r.new.stack r.result) (steps a.n 0 (state a.records.now z 0))
          c.loop-i-test.true r.ensures.0 b.invariant.1,
    )

pub returns : goal.returns
returns g c =
    let b = c.loop-i in
    let a = c.args in
    let z = replicate g.row.N (opened 0 0) in
    ap (λ (s : State). s.table)
    (rows_end a.n b.i (state b.records b.stack b.height) (steps a.n 0 (state a.records.now z 0)) c.loop-i-test.false b.invariant.1)
    ∙ steps_are a.n a.records.now z (rw length-replicate c.requires.1)
