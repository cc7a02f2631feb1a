-- `transfer::copy` copies n cells. The loop's invariant: k are copied. Assumes nothing.
use Rattle.transfer.proofs.Copies.{Copying}
use Rattle.transfer.proofs.copy.Given as goal

abbrev pub invariant-loop-k : goal.invariant-loop-k
invariant-loop-k g l = (o : _) → Copying o l.src l.from l.at l.n l.initial.dst l.dst l.k
