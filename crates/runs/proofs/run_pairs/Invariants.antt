-- `runs::run_pairs` writes what becomes of each pair. Assumes nothing.
use Rattle.runs.specs.Pair.{pair_first, pair_second}
use Rattle.runs.proofs.Pairs.{Pairing}
use Rattle.runs.proofs.run_pairs.Given as goal

abbrev pub invariant-loop-k : goal.invariant-loop-k
invariant-loop-k g l = let join = g.P.Pair.join in Pairing (pair_first join) (pair_second join) l.a l.b l.n l.initial.l l.l l.k
