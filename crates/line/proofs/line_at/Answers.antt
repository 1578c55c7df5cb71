-- `line::line_at` meets its contract. The loop's invariant: the halving from here ends where the whole one does; f bounds its turns.
-- Assumes nothing.
use mathlib.Core.Path.{sym, ap, ◌∙◌}
use Prim.Native.Nat.{◌+◌, ◌-◌, ◌/◌}
use native.Mathlib.Omega.{arith}
use lib.ListN.{length}
use Rattle.format.specs.Line.{line_before, line_at, map_of}
use Rattle.format.proofs.RowsFrom.{map_length, map_entry_lem}
use Rattle.line.proofs.Halving.{halve_up, halve_down, halve_done, line_before_lem}
use Rattle.line.proofs.line_at.Goals as goal

pub loop-lo-init : goal.loop-lo-init
loop-lo-init c = (omega arith, omega arith, (length c.args.map.now / 2, omega arith, rw map_length))

pub loop-lo-preserved-then-map-mid : goal.loop-lo-preserved-then-map-mid
loop-lo-preserved-then-map-mid c =
    let l = c.loop-lo in
    let a = c.args in
    let k = l.invariant.2.1 in
    let t = c.if-map-mid.true in
    let e = map_entry_lem a.map.now ((l.lo + l.hi) / 2) (omega arith) in
    (omega arith, omega arith, (l.invariant.2.0 - 1, omega arith, l.invariant.2.2 ∙ halve_up (map_of a.map.now) a.pos.0 l.invariant.2.0 l.lo l.hi (omega arith) k (rw e t)))

pub loop-lo-preserved : goal.loop-lo-preserved
loop-lo-preserved c =
    let l = c.loop-lo in
    let a = c.args in
    let k = l.invariant.2.1 in
    let t = c.if-map-mid.false in
    let e = map_entry_lem a.map.now ((l.lo + l.hi) / 2) (omega arith) in
    (omega arith, omega arith, (l.invariant.2.0 - 1, omega arith, l.invariant.2.2 ∙ halve_down (map_of a.map.now) a.pos.0 l.invariant.2.0 l.lo l.hi (omega arith) k (rw e t)))

pub returns-then-lo-eq0 : goal.returns-then-lo-eq0
unfolding line_at
returns-then-lo-eq0 c =
    let l = c.loop-lo in
    let a = c.args in
    sym (ap (line_before (map_of a.map.now)) (l.invariant.2.2 ∙ halve_done (map_of a.map.now) a.pos.0 l.invariant.2.0 l.lo l.hi c.loop-lo-test.false ∙ c.if-lo-eq0.true))

pub returns : goal.returns
unfolding line_at
returns c =
    let l = c.loop-lo in
    let a = c.args in
    sym (ap (line_before (map_of a.map.now)) (l.invariant.2.2 ∙ halve_done (map_of a.map.now) a.pos.0 l.invariant.2.0 l.lo l.hi c.loop-lo-test.false)
    ∙ line_before_lem a.map.now l.lo c.if-lo-eq0.false (omega arith))
