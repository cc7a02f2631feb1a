-- `passes::level_back` takes a level back. The loop's invariant: the first n pairs of rows are taken back, and those behind as far as the stages
-- are ahead. Assumes nothing.
use mathlib.Core.Path.{◌≡◌}
use Prim.Native.Nat.{◌/◌, ◌≤◌}
use lib.ListN.{length}
use Rattle.line.specs.Cells.{low_side}
use Rattle.passes.specs.Levels.{level_of}
use Rattle.passes.proofs.Swept.{Ahead}
use Rattle.passes.proofs.Rolling.{Rolled}
use Rattle.passes.proofs.level_back.Given as goal

abbrev pub invariant-loop-n : goal.invariant-loop-n
invariant-loop-n l = (length l.q ≡ length l.initial.q) × (l.n ≤ low_side l.h) × Ahead (low_side l.h) l.n l.begun l.placed
    × Rolled l.kernel (level_of l.width l.stride l.w l.h l.plane l.initial.l) (low_side l.h) (l.h / 2) l.stride l.w l.initial.l l.n l.begun l.placed l.l
