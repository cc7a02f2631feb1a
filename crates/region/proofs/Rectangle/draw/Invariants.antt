-- `Rectangle::draw` sets the samples of a rectangle. Assumes nothing.
use Prim.Native.Nat.{◌+◌, ◌-◌, ◌≤◌}
use Rattle.region.specs.Drawing.{Drawn}
use Rattle.region.proofs.Rectangle.draw.Given as goal

abbrev pub invariant-loop-y : goal.invariant-loop-y
invariant-loop-y l = let r = l.self in (r.y ≤ l.y) × (l.y ≤ r.y + r.down) × Drawn r.x r.y r.across (l.y - r.y) l.w l.initial.region l.region
