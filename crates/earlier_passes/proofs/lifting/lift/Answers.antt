-- `lifting::lift` moves all rows by the amounts of a step: the rows near both ends one at a time, those between as one run. Assumes nothing.
use native.Mathlib.Omega.{arith}
use mathlib.Core.Path.{◌≡◌}
use Prim.Native.Nat.{◌+◌, ◌-◌}
use Rattle.earlier_passes.specs.Lifting.{Lifted}
use Rattle.earlier_passes.proofs.Lifts.{straight_between, lift_join, fit_more, fit_part, strips_more}
use Rattle.earlier_passes.proofs.lifting.lift.Goals as goal

pub lift_rows-requires : goal.lift_rows-requires
lift_rows-requires c = let f = c.lift_edge-2.ensures in
    let r = c.reach_of-reach.result in let d = c.args.m - r - r in record {
      r_nonzero = (omega arith, omega arith);
      strips = strips_more f c.requires.strips;
      straight = straight_between c.args.s c.args.m r d (omega (arith, c.reach_of-reach.ensures)) (omega (arith, c.reach_of-reach.ensures));
      fit = fit_more f r (r + d) (omega arith) (fit_part r (r + d) c.requires.fit (omega arith) (omega arith));
    }

pub returns : goal.returns
returns c = let most : let a = c.args in let r = c.reach_of-reach.result in
    Lifted a.s a.add a.m a.lanes 0 (a.m - r) a.t.now a.x.now c.lift_rows.new.t = let r = c.reach_of-reach.result in
    let f = lift_join c.lift_edge-2.ensures (r + (c.args.m - r - r)) (omega arith) (omega arith) c.lift_rows.ensures in
    let e : r + (c.args.m - r - r) ≡ c.args.m - r = omega arith in
    rw e at f in
    lift_join most _ (omega arith) (omega arith) c.lift_edge-3.ensures
