-- `transfer::take` takes a strip, its even rows in front. The loop's invariant: n rows are taken. Assumes nothing.
use Prim.Native.Nat.{◌+◌, ◌*◌}
use Rattle.grid.proofs.Parted.{source}
use Rattle.transfer.specs.Moved.{Moved}
use Rattle.transfer.proofs.take.Given as goal

abbrev pub invariant-loop-n : goal.invariant-loop-n
invariant-loop-n g l = (o : _) → Moved o l.buf (λ i. l.start + source l.w i * l.step) (λ i. i * l.lanes) l.n l.lanes l.initial.strip l.strip
