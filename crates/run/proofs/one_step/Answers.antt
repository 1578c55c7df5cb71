-- `run::one_step` meets its contract.
-- Assumes nothing.
use native.Mathlib.Omega.{arith}
use Rattle.moves.specs.Answers.{choice_of}
use Rattle.run.proofs.Steps.{sizes, held_none, inside, row_fits, top_stands, held_gone, to_small, held_to, into_small, into_room, held_into}
use Rattle.run.proofs.one_step.Goals as goal

pub returns-then-d-eq0 : goal.returns-then-d-eq0
returns-then-d-eq0 c =
    let a = c.args in held_none _ a.frames.now a.d (choice_of a.choice) c.if-d-eq0.true c.requires.held

pub move_in-requires : goal.move_in-requires
move_in-requires c =
    let q = c.requires in
    let w = row_fits q.ready q.n_in_bounds q.held c.if-d-eq0.false c.word-r.ensures.0 c.word-o.ensures.0 in
    record {
      record_width_in_bounds = w.inside;
      r_in_bounds = w.bytes;
      r_in_bounds_2 = w.handling;
      stands = top_stands q.ready q.n_in_bounds q.held c.if-d-eq0.false c.word-r.ensures.0 c.word-o.ensures.0;
    }

pub put_frame-requires-in-To : goal.put_frame-requires-in-To
put_frame-requires-in-To c =
    omega (
      arith,
      sizes c.requires.ready c.requires.n_in_bounds c.requires.held,
      c.word-r.ensures.1,
      to_small c.requires.ready c.requires.n_in_bounds c.requires.held c.if-d-eq0.false c.word-r.ensures.0 c.word-o.ensures.0
          (choice_of c.args.choice) _ c.in-To.ensures,
    )

pub child_record-entered-requires : goal.child_record-entered-requires
child_record-entered-requires c =
    let q = c.requires in
    let k = into_small q.ready q.n_in_bounds q.held c.if-d-eq0.false c.word-r.ensures.0 c.word-o.ensures.0 (choice_of c.args.choice) _ _ c.in-Into.ensures in
    let i = inside q.ready q.n_in_bounds q.held c.if-d-eq0.false c.word-r.ensures.0 c.word-o.ensures.0 in
    record { few = (q.ready.fits.few, q.ready.fits.held, i); k_bound = k.1 }

pub put_frame-requires-in-Into : goal.put_frame-requires-in-Into
put_frame-requires-in-Into c =
    omega (
      arith,
      sizes c.requires.ready c.requires.n_in_bounds c.requires.held,
      c.word-r.ensures.1,
      (into_small c.requires.ready c.requires.n_in_bounds c.requires.held c.if-d-eq0.false c.word-r.ensures.0 c.word-o.ensures.0
          (choice_of c.args.choice) _ _ c.in-Into.ensures).0,
    )

pub put_frame-requires-in-Into-2 : goal.put_frame-requires-in-Into-2
put_frame-requires-in-Into-2 c =
    omega (
      arith,
      sizes c.requires.ready c.requires.n_in_bounds c.requires.held,
      c.put_frame-in-Into.auto.frames,
      into_room c.requires.ready c.requires.n_in_bounds c.requires.held c.if-d-eq0.false c.word-r.ensures.0 c.word-o.ensures.0
          (choice_of c.args.choice) _ _ c.in-Into.ensures _ c.child_record-entered.ensures,
    )

pub returns-in-Gone : goal.returns-in-Gone
returns-in-Gone c =
    held_gone c.requires.ready c.requires.n_in_bounds c.requires.held c.if-d-eq0.false c.word-r.ensures.0 c.word-o.ensures.0 (choice_of c.args.choice)
    c.in-Gone.ensures c.put_frame.ensures

pub returns-in-To : goal.returns-in-To
returns-in-To c =
    held_to c.requires.ready c.requires.n_in_bounds c.requires.held c.if-d-eq0.false c.word-r.ensures.0 c.word-o.ensures.0 (choice_of c.args.choice) _
    c.in-To.ensures c.put_frame-in-To.ensures

pub returns-in-Into : goal.returns-in-Into
returns-in-Into c =
    held_into c.requires.ready c.requires.n_in_bounds c.requires.held c.if-d-eq0.false c.word-r.ensures.0 c.word-o.ensures.0 (choice_of c.args.choice) _ _
    c.in-Into.ensures _ c.child_record-entered.ensures c.put_frame-in-Into.ensures c.put_frame-in-Into-2.ensures
