use native.Mathlib.Omega.{arith}
use Rattle.passes.proofs.Placing.{pairs_in_more}
use Rattle.passes.proofs.pairs_in.Goals as goal

pub loop-n-preserved : goal.loop-n-preserved
loop-n-preserved c = let i = c.loop-n.invariant in (omega arith, omega arith, pairs_in_more (omega (arith, c.requires.a_le_b)) i.2 c.pair_in.ensures i.0)
