-- `members::place_run` lists the places of the members of a run. Assumes nothing.
use mathlib.Core.Path.{◌≡◌}
use Prim.Native.Nat.{◌+◌}
use lib.IntN.{pos}
use lib.ListN.{length}
use Rattle.line.specs.Cells.{cell}
use Rattle.bitplane.specs.Body.{class}
use Rattle.members.specs.Collection.{Collected}
use Rattle.members.proofs.place_run.Given as goal

abbrev pub invariant-loop-k : goal.invariant-loop-k
invariant-loop-k l = (length l.list ≡ length l.initial.list) × Collected (class l.mask l.c) pos (l.from + l.k) (cell l.list) l.m
