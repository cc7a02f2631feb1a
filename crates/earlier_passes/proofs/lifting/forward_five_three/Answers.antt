-- `lifting::forward_five_three` transforms a strip by kernel 3. Assumes nothing.
use Prim.Native.Nat.{◌+◌, ◌^◌}
use mathlib.Core.Bool.{true, false}
use Rattle.earlier_passes.specs.declared.runs.Step.TheVariants.{High, Low}
use mathlib.Core.Path.{refl}
use Rattle.earlier_passes.proofs.Strips.{strips_swap, strips_as, small_lanes}
use Rattle.earlier_passes.proofs.Transforms.{lift_fit, lift_lanes, forward_five_three}
use Rattle.earlier_passes.proofs.lifting.forward_five_three.Goals as goal

pub lift-requires : goal.lift-requires
lift-requires c = let a = c.args in
    record { strips = strips_swap c.requires.strips; fit = lift_fit High false a.m a.lanes (2 ^ 29) (2 ^ 29) a.odd.now a.even.now (small_lanes c.requires.samples.odds) (small_lanes c.requires.samples.evens) tt }

pub lift-requires-2 : goal.lift-requires-2
lift-requires-2 c = let a = c.args in let f = c.lift.ensures in
    record { strips = strips_as c.requires.strips refl f.rows.size; fit = lift_fit Low true a.m a.lanes (2 ^ 29) (2 ^ 29 + (2 ^ 29 + 1)) a.even.now _ (small_lanes c.requires.samples.evens) (lift_lanes High false a.m a.lanes (2 ^ 29) (2 ^ 29) a.odd.now a.even.now (small_lanes c.requires.samples.odds) (small_lanes c.requires.samples.evens) f) tt }

pub returns : goal.returns
returns c = let a = c.args in forward_five_three a.m a.lanes a.even.now a.odd.now _ _ c.lift.ensures c.lift-2.ensures
