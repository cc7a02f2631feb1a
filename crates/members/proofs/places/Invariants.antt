-- `members::places` lists the places of the members of a class, run by run. Assumes nothing.
use mathlib.Core.Path.{◌≡◌}
use Prim.Native.Nat.{◌*◌, ◌≤◌}
use lib.IntN.{pos}
use lib.ListN.{length}
use Rattle.line.specs.Cells.{cell}
use Rattle.bitplane.specs.Body.{class}
use Rattle.members.specs.Collection.{Collected}
use Rattle.members.proofs.places.Given as goal

abbrev pub invariant-loop-b : goal.invariant-loop-b
invariant-loop-b l = (l.b ≤ l.blocks) × (length l.list ≡ length l.initial.list) × Collected (class l.mask l.c) pos (64 * l.b) (cell l.list) l.n
