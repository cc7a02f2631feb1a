-- `lifting::forward_pairs` transforms a strip by kernel 1 or 2. Assumes nothing.
use Prim.Native.Nat.{◌^◌}
use mathlib.Core.Bool.{false}
use Rattle.earlier_passes.proofs.Strips.{strips_swap, strips_as}
use Rattle.earlier_passes.proofs.Transforms.{split_means, split_differences, means_lanes, differences_lanes, lift_fit, forward_pairs}
use Rattle.earlier_passes.proofs.lifting.forward_pairs.Goals as goal

pub lift-requires : goal.lift-requires
lift-requires c = let a = c.args in
    let f = split_means a.m a.lanes a.even.now a.odd.now _ a.odd.now c.split_pairs.ensures.written in let g = split_differences a.m a.lanes a.even.now a.odd.now a.even.now _ c.split_pairs.ensures.written_2 in record {
      strips = strips_swap (strips_as c.requires.strips f.size g.size);
      fit = lift_fit a.s false a.m a.lanes (2 ^ 30) (2 ^ 29) _ _ (differences_lanes a.m a.lanes a.even.now a.odd.now a.even.now _ c.requires.samples g) (means_lanes a.m a.lanes a.even.now a.odd.now _ a.odd.now c.requires.samples f) tt;
    }

pub returns : goal.returns
returns c = let a = c.args in
    let f = split_means a.m a.lanes a.even.now a.odd.now _ a.odd.now c.split_pairs.ensures.written in let g = split_differences a.m a.lanes a.even.now a.odd.now a.even.now _ c.split_pairs.ensures.written_2 in
    forward_pairs a.s a.m a.lanes a.even.now a.odd.now _ _ _ f g c.lift.ensures
