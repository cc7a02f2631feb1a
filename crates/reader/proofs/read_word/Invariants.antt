-- `reader::read_word` reads 4,096 coefficients of a pass: of those with a flag of 0 none is of the class. Assumes nothing.
use mathlib.Core.Path.{◌≡◌}
use Prim.Native.Nat.{◌+◌, ◌*◌, ◌≤◌}
use lib.ListN.{length}
use Rattle.reader.specs.Passes.{Goes}
use Rattle.reader.proofs.read_word.Given as goal

abbrev pub invariant-loop-j : goal.invariant-loop-j
invariant-loop-j l = (l.j ≤ 64) × (length l.plane ≡ length l.initial.plane) × Goes l.pass l.initial.plane l.p l.from l.plane l.q (l.from + 64 * l.j)
