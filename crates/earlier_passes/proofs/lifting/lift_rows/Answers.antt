-- `lifting::lift_rows` moves a run of rows by the amounts of a step. Assumes nothing.
use Rattle.earlier_passes.proofs.Lifts.{run_room, run_stays, run_rows}
use Rattle.earlier_passes.proofs.lifting.lift_rows.Goals as goal

pub run-requires : goal.run-requires
run-requires c = let a = c.args in let e = c.taps-p.ensures in let p = c.requires in record {
  room = run_room a.s a.m a.n a.r a.lanes a.t.now a.x.now _ e p.straight p.r_nonzero.1 p.r_nonzero.0 p.strips;
  stays = run_stays a.s a.m a.n a.r a.lanes a.t.now a.x.now _ e p.straight p.r_nonzero.1 a.add p.fit;
}

pub returns : goal.returns
returns c = let a = c.args in
    run_rows a.s a.m a.n a.r a.lanes a.t.now a.x.now _ c.taps-p.ensures c.requires.straight c.requires.r_nonzero.1 a.add _ c.run.ensures
