-- `lifting::back_pairs` takes a strip back by kernel 1 or 2. Assumes nothing.
use mathlib.Core.Bool.{true}
use Rattle.earlier_passes.proofs.Strips.{strips_swap, small_lanes, lanes_cell}
use Prim.Native.Nat.{◌+◌, ◌^◌}
use Rattle.earlier_passes.proofs.Transforms.{join_fits, lift_fit, lift_lanes}
use Rattle.earlier_passes.proofs.lifting.back_pairs.Goals as goal

pub lift-requires : goal.lift-requires
lift-requires c = let a = c.args in
    record { strips = strips_swap c.requires.strips; fit = lift_fit a.s true a.m a.lanes (2 ^ 24) (2 ^ 30) a.high.now a.low.now (small_lanes c.requires.coefficients.highs) (small_lanes c.requires.coefficients.lows) tt }

pub join_pairs-requires : goal.join_pairs-requires
join_pairs-requires c = let a = c.args in let f = c.lift.ensures in
    let d = lift_lanes a.s true a.m a.lanes (2 ^ 24) (2 ^ 30) a.high.now a.low.now (small_lanes c.requires.coefficients.highs) (small_lanes c.requires.coefficients.lows) f in
    record { n_in_bounds = (c.requires.strips.evens, rw f.rows.size c.requires.strips.odds); by_index = join_fits (2 ^ 24 + (2 ^ 30 + 1)) _ a.low.now c.lift.new.t tt c.requires.coefficients.lows.each (lanes_cell d) }
