-- `members::among` counts the members among some coefficients. Assumes nothing.
use Rattle.line.specs.Cells.{behind}
use Rattle.line.proofs.Counts.{Counted}
use Rattle.bitplane.specs.Body.{class}
use Rattle.members.proofs.among.Given as goal

abbrev pub invariant-loop-m : goal.invariant-loop-m
invariant-loop-m l = Counted (behind l.i (class l.mask l.c)) l.n l.m-index l.found
