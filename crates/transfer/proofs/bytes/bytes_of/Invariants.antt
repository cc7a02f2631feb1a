-- `transfer::bytes::bytes_of` writes a byte of each pair. The loop's invariant: those of k pairs are written. Assumes nothing.
use Prim.Native.Nat.{◌%◌, ◌/◌, ◌^◌}
use lib.ListN.{get_or}
use Rattle.transfer.specs.Parting.{Written}
use Rattle.transfer.proofs.bytes.bytes_of.Given as goal

abbrev pub invariant-loop-k : goal.invariant-loop-k
invariant-loop-k g l = Written (λ i. get_or l.line i 0 / 256 ^ g.row.BYTE % 256) l.at l.k l.initial.dst l.dst
