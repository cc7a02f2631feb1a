-- `writer::high_members` is at least each magnitude of a class among 16. Assumes nothing.
use mathlib.Core.Path.{◌≡◌}
use mathlib.Core.Bool.{true}
use Prim.Native.Nat.{ℕ, ◌+◌, ◌<◌, ◌≤◌}
use lib.IntN.{nat_abs}
use Rattle.line.specs.Cells.{cell}
use Rattle.bitplane.specs.Body.{class}
use Rattle.writer.proofs.high_members.Given as goal

abbrev pub invariant-loop-k : goal.invariant-loop-k
invariant-loop-k l = (k : ℕ) → k < l.k → class l.pass.mask.now l.pass.class (l.i + k) ≡ true → nat_abs (cell l.pass.plane.now (l.i + k)) ≤ l.high
