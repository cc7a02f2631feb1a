-- A lifting step moves a run of rows. Assumes nothing.
use native.Mathlib.Omega.{arith}
use Rattle.lifting.proofs.Rows.{in_one, run_inside}
use Rattle.lifting.proofs.Lifts.{run_room, run_near, run_stays, run_rows}
use Rattle.lifting.proofs.MovesOnRows.rows.Goals as goal

pub taps-taps-requires : goal.taps-taps-requires
taps-taps-requires g c = let x = c.requires.takes in let q = x.parts in let a = c.args in record {
  lows_nonzero = (x.some, omega (arith, c.requires.r_nonzero, q.few));
  step_bound = omega (arith, q.first.place a.n 0 (omega (arith, c.requires.r_nonzero)) q.lines);
  fact = in_one q.second q.lines;
}

pub overflow_mul-r : goal.overflow_mul-r
overflow_mul-r g c = let a = c.args in let q = c.requires.takes.parts in omega (arith, run_inside a.n a.r q.first c.requires.end_to_end c.requires.r_nonzero q.lines (omega arith))

pub run-requires : goal.run-requires
run-requires g c = let s = g.S.Lift.step in let a = c.args in let p = a.p in let e = c.taps-taps.ensures in let x = c.requires.end_to_end in let st = c.requires.alike in let y = c.requires.takes in record {
  room = run_room s p.lows a.n a.r p.lanes p.b p.a p.step a.l.now _ e x st y.some y.top c.requires.r_nonzero y.parts;
  near = run_near s p.lows a.n a.r p.lanes p.b p.a p.step a.l.now _ e x st y.some y.top c.requires.r_nonzero y.bounded;
  stays = run_stays s p.lows a.n a.r p.lanes p.b p.a p.step a.l.now _ e x st y.some y.top a.undo y.fit;
}

pub returns : goal.returns
returns g c = let s = g.S.Lift.step in let a = c.args in let p = a.p in let y = c.requires.takes in
    run_rows s p.lows a.n a.r p.lanes p.b p.a p.step a.l.now _ c.taps-taps.ensures c.requires.end_to_end c.requires.alike y.some y.top a.undo _ c.run.ensures
