-- `region::draw` makes the region of the rectangles. Assumes nothing.
use Prim.Native.Nat.{◌/◌, ◌%◌}
use lib.ListN.{length}
use Rattle.region.proofs.Painted.{Painted}
use Rattle.region.proofs.draw.Given as goal

abbrev pub invariant-loop-rectangle : goal.invariant-loop-rectangle
invariant-loop-rectangle l = Painted l.numbers (λ i. i % l.w) (λ i. i / l.w) l.rectangle-index (length l.initial.region) l.region
