-- `scan::scan` is the largest magnitude and the number of coefficients that are not 0. Assumes nothing.
use Rattle.scan.proofs.Running.{Scanned}
use Rattle.scan.proofs.scan.Given as goal

abbrev pub invariant-loop-c : goal.invariant-loop-c
invariant-loop-c l = Scanned l.plane l.c-index l.largest l.signs
