-- `transfer::take_line` takes a line. The loop's invariant: n numbers are taken. Assumes nothing.
use Prim.Native.Nat.{◌+◌, ◌*◌}
use lib.IntN.{pos}
use Rattle.earlier_passes.proofs.Transfers.{Moving}
use Rattle.earlier_passes.proofs.transfer.take_line.Given as goal

abbrev pub invariant-loop-n : goal.invariant-loop-n
invariant-loop-n l = Moving (pos 0) l.buf (λ i. l.start + i * l.step) (λ i. i * 1) l.m 1 l.initial.strip l.strip l.n
