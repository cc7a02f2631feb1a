-- `transfer::copy_rows` copies rows of cells. The loop's invariant: i rows are copied. Assumes nothing.
use Prim.Native.Nat.{◌+◌, ◌*◌}
use Rattle.transfer.specs.Moved.{Moved}
use Rattle.transfer.proofs.copy_rows.Given as goal

abbrev pub invariant-loop-i : goal.invariant-loop-i
invariant-loop-i g l = (o : _) → Moved o l.src (λ r. l.from + r * l.step) (λ r. l.at + r * l.stride) l.i l.n l.initial.dst l.dst
