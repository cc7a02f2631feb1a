-- `writer::each` is what each of 16 coefficients gives to a plane. Assumes nothing.
use Rattle.writer.specs.Passes.{Each}
use Rattle.writer.proofs.each.Given as goal

abbrev pub invariant-loop-k : goal.invariant-loop-k
invariant-loop-k l = Each l.pass l.i l.k l.found
