-- `lifting::back_s` takes a strip back by kernel 0. Assumes nothing.
use Prim.Native.Nat.{◌^◌}
use Rattle.earlier_passes.proofs.Transforms.{join_fits, back_s}
use Rattle.earlier_passes.proofs.lifting.back_s.Goals as goal

pub join_pairs-requires : goal.join_pairs-requires
join_pairs-requires c = record { n_in_bounds = (c.requires.strips.evens, c.requires.strips.odds); by_index = join_fits (2 ^ 24) _ c.args.low.now c.args.high.now tt c.requires.coefficients.lows.each c.requires.coefficients.highs.each }

pub returns : goal.returns
returns c = let a = c.args in let w = c.join_pairs.ensures in
    back_s a.m a.lanes a.low.now a.high.now _ _ w.written w.written_2
