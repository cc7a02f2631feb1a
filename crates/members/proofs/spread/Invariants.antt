-- `members::spread` puts the members of a class where they belong, run by run. Assumes nothing.
use mathlib.Core.Path.{◌≡◌}
use Prim.Native.Nat.{◌*◌, ◌≤◌}
use lib.ListN.{length}
use Rattle.line.specs.Cells.{cell}
use Rattle.bitplane.specs.Body.{class}
use Rattle.members.specs.Collection.{Collected, Kept}
use Rattle.members.proofs.spread.Given as goal

abbrev pub invariant-loop-b : goal.invariant-loop-b
invariant-loop-b l = (l.b ≤ l.blocks) × (length l.plane ≡ length l.initial.plane) × Collected (class l.mask l.c) (cell l.plane) (64 * l.b) (cell l.list) l.n × Kept (class l.mask l.c) (cell l.initial.plane) (cell l.plane)
