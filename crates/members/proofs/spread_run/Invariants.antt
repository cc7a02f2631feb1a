-- `members::spread_run` puts the members of a run where they belong. Assumes nothing.
use mathlib.Core.Path.{◌≡◌}
use Prim.Native.Nat.{◌+◌}
use lib.ListN.{length}
use Rattle.line.specs.Cells.{cell}
use Rattle.bitplane.specs.Body.{class}
use Rattle.members.specs.Collection.{Collected, Kept}
use Rattle.members.proofs.spread_run.Given as goal

abbrev pub invariant-loop-k : goal.invariant-loop-k
invariant-loop-k l = (length l.plane ≡ length l.initial.plane) × Collected (class l.mask l.c) (cell l.plane) (l.from + l.k) (cell l.list) l.m × Kept (class l.mask l.c) (cell l.initial.plane) (cell l.plane)
