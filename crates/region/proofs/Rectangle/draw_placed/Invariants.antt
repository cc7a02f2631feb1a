-- `Rectangle::draw_placed` sets the samples of a rectangle, placed. Assumes nothing.
use Prim.Native.Nat.{◌+◌, ◌-◌, ◌≤◌}
use Rattle.region.specs.Drawing.{DrawnPlaced}
use Rattle.region.proofs.Rectangle.draw_placed.Given as goal

abbrev pub invariant-loop-y : goal.invariant-loop-y
invariant-loop-y l = let r = l.fn.self in (r.y ≤ l.y) × (l.y ≤ r.y + r.down) × DrawnPlaced r.x r.y r.across (l.y - r.y) l.w l.h l.initial.region l.region
