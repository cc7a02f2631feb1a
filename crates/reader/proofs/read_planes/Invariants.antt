-- `reader::read_planes` reads the planes of a class. Assumes nothing.
use lib.ListN.{length}
use Rattle.bitplane.specs.Body.{class}
use Rattle.reader.proofs.Planes.{Left}
use Rattle.reader.proofs.read_planes.Given as goal

abbrev pub invariant-loop-t : goal.invariant-loop-t
invariant-loop-t l = Left l.body (class l.mask l.c) (length l.initial.plane) l.top l.initial.plane l.p l.t l.plane l.q
