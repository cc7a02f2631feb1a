-- `transfer::put_line` puts a line. The loop's invariant: n numbers are put. Assumes nothing.
use Prim.Native.Nat.{◌+◌, ◌*◌}
use lib.IntN.{pos}
use Rattle.earlier_passes.proofs.Transfers.{Moving}
use Rattle.earlier_passes.proofs.transfer.put_line.Given as goal

abbrev pub invariant-loop-n : goal.invariant-loop-n
invariant-loop-n l = Moving (pos 0) l.strip (λ i. i * 1) (λ i. l.start + i * l.step) l.m 1 l.initial.buf l.buf l.n
