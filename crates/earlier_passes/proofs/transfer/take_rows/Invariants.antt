-- `transfer::take_rows` takes rows of numbers. The loop's invariant: n rows are taken. Assumes nothing.
use Prim.Native.Nat.{◌+◌, ◌*◌}
use lib.IntN.{pos}
use Rattle.earlier_passes.proofs.Transfers.{Moving}
use Rattle.earlier_passes.proofs.transfer.take_rows.Given as goal

abbrev pub invariant-loop-n : goal.invariant-loop-n
invariant-loop-n l = Moving (pos 0) l.buf (λ i. l.start + i * l.step) (λ i. i * l.lanes) l.m l.lanes l.initial.strip l.strip l.n
