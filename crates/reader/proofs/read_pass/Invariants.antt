-- `reader::read_pass` reads a pass: of the coefficients of a word of 0 none is of the class. Assumes nothing.
use mathlib.Core.Path.{◌≡◌}
use Prim.Native.Nat.{◌*◌}
use lib.ListN.{length}
use Rattle.reader.specs.Passes.{Goes}
use Rattle.reader.proofs.read_pass.Given as goal

abbrev pub invariant-loop-k : goal.invariant-loop-k
invariant-loop-k l = (length l.plane ≡ length l.initial.plane) × Goes l.pass l.initial.plane l.p 0 l.plane l.q (4096 * l.k)
