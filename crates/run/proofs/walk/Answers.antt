-- `run::walk` meets its contract.
-- Assumes nothing.
use Rattle.run.proofs.Walks.{walking_start, walking_step, walking_end}
use Rattle.run.proofs.walk.Goals as goal

pub loop-i-init : goal.loop-i-init
loop-i-init c = walking_start c.args.choices.now c.requires.ready c.requires.n_in_bounds c.requires.frames_value

pub loop-i-preserved : goal.loop-i-preserved
loop-i-preserved c = walking_step c.loop-i.invariant c.in_ok-choice.ensures c.one_step-d.ensures

pub returns : goal.returns
returns c = walking_end c.loop-i.invariant c.loop-i-test.false
