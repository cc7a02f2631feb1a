-- `writer::gather` gathers what 16 coefficients give to a plane. Assumes nothing.
use Rattle.writer.specs.Written.{Digits}
use Rattle.writer.specs.Passes.{stretch}
use Rattle.writer.proofs.gather.Given as goal

abbrev pub invariant-loop-digits : goal.invariant-loop-digits
invariant-loop-digits l = Digits (stretch l.pass l.i l.digits-index) l.number l.count
