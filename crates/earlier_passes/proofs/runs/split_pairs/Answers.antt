use borrow.Author.Rules.{rules}
use native.Mathlib.Omega.{arith}
use Rattle.earlier_passes.proofs.Pairs.{pairing_more}
use Rattle.earlier_passes.proofs.runs.split_pairs.Goals as goal

pub loop-k-preserved : goal.loop-k-preserved
loop-k-preserved c = pairing_more c.loop-k.invariant (search rules) (search rules) (omega arith) c.mean.type_inv c.difference.type_inv c.mean.ensures c.difference.ensures
