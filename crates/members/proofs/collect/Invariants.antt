-- `members::collect` collects the members of a class. Assumes nothing.
use lib.ListN.{length}
use Rattle.line.specs.Cells.{cell}
use Rattle.bitplane.specs.Body.{class}
use Rattle.members.proofs.Collection.{Fetched}
use Rattle.members.proofs.collect.Given as goal

abbrev pub invariant-loop-v : goal.invariant-loop-v
invariant-loop-v l = Fetched (class l.mask l.c) (cell l.plane) (length l.plane) (cell l.v-items) l.v-index
