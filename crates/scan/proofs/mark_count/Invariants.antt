-- `scan::mark_count` is the number of marks of a mask. Assumes nothing.
use lib.ListN.{length}
use Rattle.bitplane.specs.Body.{class}
use Rattle.line.proofs.Counts.{Counted}
use Rattle.scan.proofs.mark_count.Given as goal

abbrev pub invariant-loop-mark : goal.invariant-loop-mark
invariant-loop-mark l = Counted (class l.mask 1) (length l.mask) l.mark-index l.n
