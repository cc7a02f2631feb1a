-- `header_reader::rectangle_numbers` reads the numbers of the rectangles into an array. Assumes nothing.
use Prim.Native.Nat.{◌*◌, ◌-◌}
use Rattle.header_reader.proofs.Arrays.{Taken}
use Rattle.header_reader.proofs.rectangle_numbers.Given as goal

abbrev pub invariant-loop-i : goal.invariant-loop-i
invariant-loop-i l = Taken l.stream l.count l.i l.rectangles

abbrev pub decreases-loop-i : goal.decreases-loop-i
decreases-loop-i l = 4 * l.count - l.i
