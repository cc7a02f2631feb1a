-- `brightness::row_number` counts the samples of a row that are in the region. Assumes nothing.
use lib.ListN.{length}
use Rattle.line.proofs.Counts.{Counted}
use Rattle.brightness.specs.Brightness.{has}
use Rattle.brightness.proofs.row_number.Given as goal

abbrev pub invariant-loop-byte : goal.invariant-loop-byte
invariant-loop-byte l = Counted (has l.bytes) (length l.bytes) l.byte-index l.number
