-- `region::draw_placed` makes the region of the rectangles, placed. Assumes nothing.
use Prim.Native.Nat.{◌/◌, ◌%◌}
use lib.ListN.{length}
use Rattle.grid.proofs.Parted.{source}
use Rattle.region.proofs.Painted.{Painted}
use Rattle.region.proofs.draw_placed.Given as goal

abbrev pub invariant-loop-rectangle : goal.invariant-loop-rectangle
invariant-loop-rectangle l = Painted l.numbers (λ i. source l.w (i % l.w)) (λ i. source l.h (i / l.w)) l.rectangle-index (length l.initial.region) l.region
