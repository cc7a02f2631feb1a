-- `transfer::put_rows` puts rows of numbers. The loop's invariant: n rows are put. Assumes nothing.
use Prim.Native.Nat.{◌+◌, ◌*◌}
use lib.IntN.{pos}
use Rattle.earlier_passes.proofs.Transfers.{Moving}
use Rattle.earlier_passes.proofs.transfer.put_rows.Given as goal

abbrev pub invariant-loop-n : goal.invariant-loop-n
invariant-loop-n l = Moving (pos 0) l.strip (λ i. i * l.lanes) (λ i. l.start + i * l.step) l.m l.lanes l.initial.buf l.buf l.n
