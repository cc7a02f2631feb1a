-- `passes::level_in` makes a level of a picture. The loop's invariant: the first n pairs of rows are done, and those behind as far as the stages are
-- ahead. Assumes nothing.
use Prim.Native.Nat.{◌/◌, ◌≤◌}
use Rattle.line.specs.Cells.{low_side}
use Rattle.line.specs.Transform.{forward}
use Rattle.grid.specs.Picture.{row_pass}
use Rattle.passes.specs.Passes.{pictured}
use Rattle.passes.proofs.Swept.{Ahead}
use Rattle.passes.proofs.Rising.{Rising}
use Rattle.passes.proofs.level_in.Given as goal

abbrev pub invariant-loop-n : goal.invariant-loop-n
invariant-loop-n l = (l.n ≤ low_side l.h) × Ahead (low_side l.h) l.n l.begun l.placed × Rising l.kernel (row_pass (forward l.kernel) l.w l.h (pictured l.w l.samples)) (low_side l.h) (l.h / 2) l.w l.initial.l l.n l.begun l.placed l.l
