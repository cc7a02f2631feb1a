-- `coefficient::take` is what 16 coefficients take of a body. Assumes nothing.
use mathlib.Core.Path.{◌≡◌}
use Prim.Native.Nat.{◌+◌, ◌*◌, ◌/◌, ◌≤◌}
use lib.ListN.{length}
use Rattle.line.specs.Cells.{behind}
use Rattle.bitplane.specs.Body.{class}
use Rattle.bitplane.specs.Reader.{received}
use Rattle.coefficient.specs.Growth.{reading_from, Takes}
use Rattle.coefficient.proofs.take.Given as goal

-- o is counted from the first bit of the window
abbrev pub invariant-loop-k : goal.invariant-loop-k
invariant-loop-k l = (l.k ≤ 16) × (length l.pairs ≡ length l.initial.pairs) × (l.begin ≤ l.o) × (l.o ≤ l.begin + 2 * l.k) × Takes (received l.body) (behind l.i (class l.mask l.c)) (reading_from l.plane l.i l.p) l.k l.pairs (8 * (l.p / 8) + l.o)
