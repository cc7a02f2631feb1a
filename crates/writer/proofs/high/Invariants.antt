-- `writer::high` is at least each of 16 magnitudes. Assumes nothing.
use Prim.Native.Nat.{ℕ, ◌+◌, ◌<◌, ◌≤◌}
use lib.IntN.{nat_abs}
use Rattle.line.specs.Cells.{cell}
use Rattle.writer.proofs.high.Given as goal

abbrev pub invariant-loop-z : goal.invariant-loop-z
invariant-loop-z l = (k : ℕ) → k < l.z-index → nat_abs (cell l.pass.plane.now (l.i + k)) ≤ l.high
