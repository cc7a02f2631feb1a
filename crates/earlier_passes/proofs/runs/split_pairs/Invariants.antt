-- `runs::split_pairs` writes the mean and the difference of each pair. Assumes nothing.
use Rattle.line.specs.Formulas.{mean, difference}
use Rattle.earlier_passes.proofs.Pairs.{Pairing}
use Rattle.earlier_passes.proofs.runs.split_pairs.Given as goal

abbrev pub invariant-loop-k : goal.invariant-loop-k
invariant-loop-k l = Pairing mean difference l.n l.initial.a l.initial.b l.a l.b l.k
