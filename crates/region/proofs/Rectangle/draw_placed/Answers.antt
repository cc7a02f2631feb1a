use mathlib.Core.Path.{◌≡◌}
use Prim.Native.Nat.{◌-◌}
use native.Mathlib.Omega.{arith}
use Rattle.region.proofs.Placed.{placed_none, placed_row}
use Rattle.region.proofs.Rectangle.draw_placed.Goals as goal

pub loop-y-init : goal.loop-y-init
loop-y-init c = let a = c.args in let r = a.self in let none : r.y - r.y ≡ 0 = omega arith in
    (omega arith, omega arith, rw none (placed_none r.x r.y r.across a.w a.h _))

pub loop-y-preserved : goal.loop-y-preserved
loop-y-preserved c = let a = c.args in let r = a.self in let l = c.loop-y in let right = c.right-right.ensures in (
  omega arith,
  omega arith,
  placed_row r.x r.y r.across a.w a.h c.requires.across_bound.0 l.invariant.0 (omega arith) c.place.ensures l.invariant.2 (rw right at c.fill.ensures) (rw right at c.fill-in-loop-y.ensures),
)
