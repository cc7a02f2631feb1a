-- `brightness::row_bad` asks whether a region byte of a row is above 1. Assumes nothing.
use lib.Dec.{ltb}
use lib.ListN.{length, get_or}
use Rattle.refusal.proofs.Scans.{Scanned}
use Rattle.brightness.proofs.row_bad.Given as goal

abbrev pub invariant-loop-byte : goal.invariant-loop-byte
invariant-loop-byte l = Scanned (λ i. ltb 1 (get_or l.bytes i 0)) (length l.bytes) l.byte-index l.bad
