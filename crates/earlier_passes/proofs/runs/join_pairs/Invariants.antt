-- `runs::join_pairs` writes the pair of each mean and difference. Assumes nothing.
use Rattle.line.specs.Formulas.{first_of, second_of}
use Rattle.earlier_passes.proofs.Pairs.{Pairing}
use Rattle.earlier_passes.proofs.runs.join_pairs.Given as goal

abbrev pub invariant-loop-k : goal.invariant-loop-k
invariant-loop-k l = Pairing first_of second_of l.n l.initial.a l.initial.b l.a l.b l.k
