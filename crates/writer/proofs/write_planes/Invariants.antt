-- `writer::write_planes` writes the planes of a class. Assumes nothing.
use Prim.Native.Nat.{◌≤◌}
use lib.ListN.{length}
use Rattle.line.specs.Cells.{cell}
use Rattle.bitplane.specs.Body.{class}
use Rattle.writer.proofs.Passes.{Rest}
use Rattle.writer.proofs.write_planes.Given as goal

abbrev pub invariant-loop-t : goal.invariant-loop-t
invariant-loop-t l = (l.t ≤ l.top) × Rest (class l.mask l.c) (cell l.plane) (length l.plane) l.top l.p l.initial.out l.t l.q l.out
