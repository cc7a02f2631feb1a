-- `transfer::bytes::pair_up` takes pairs of bytes. The loop's invariant: k pairs are taken. Assumes nothing.
use Rattle.transfer.specs.Parting.{Paired}
use Rattle.transfer.proofs.bytes.pair_up.Given as goal

abbrev pub invariant-loop-k : goal.invariant-loop-k
invariant-loop-k l = Paired l.from l.k l.k l.src l.line
