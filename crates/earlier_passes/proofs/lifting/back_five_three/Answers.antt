-- `lifting::back_five_three` takes a strip back by kernel 3. Assumes nothing.
use Prim.Native.Nat.{◌+◌, ◌^◌}
use mathlib.Core.Bool.{true, false}
use Rattle.earlier_passes.specs.declared.runs.Step.TheVariants.{High, Low}
use mathlib.Core.Path.{refl}
use Rattle.earlier_passes.proofs.Strips.{strips_swap, strips_as, small_lanes}
use Rattle.earlier_passes.proofs.Transforms.{lift_fit, lift_lanes, back_five_three}
use Rattle.earlier_passes.proofs.lifting.back_five_three.Goals as goal

pub lift-requires : goal.lift-requires
lift-requires c = let a = c.args in
    record { strips = c.requires.strips; fit = lift_fit Low false a.m a.lanes (2 ^ 30) (2 ^ 24) a.low.now a.high.now (small_lanes c.requires.coefficients.lows) (small_lanes c.requires.coefficients.highs) tt }

pub lift-requires-2 : goal.lift-requires-2
lift-requires-2 c = let a = c.args in let f = c.lift.ensures in
    record { strips = strips_swap (strips_as c.requires.strips f.rows.size refl); fit = lift_fit High true a.m a.lanes (2 ^ 24) (2 ^ 30 + (2 ^ 24 + 1)) a.high.now _ (small_lanes c.requires.coefficients.highs) (lift_lanes Low false a.m a.lanes (2 ^ 30) (2 ^ 24) a.low.now a.high.now (small_lanes c.requires.coefficients.lows) (small_lanes c.requires.coefficients.highs) f) tt }

pub returns : goal.returns
returns c = let a = c.args in back_five_three a.m a.lanes a.low.now a.high.now _ _ c.lift.ensures c.lift-2.ensures
