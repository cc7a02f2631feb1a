-- `floors::floor2` is floor_div by 2. Assumes nothing.
use borrow.Author.Rules.{rules}
use native.Mathlib.Omega.{arith}
use mathlib.Core.Path.{◌∙◌}
use Prim.Native.Nat.{◌≤◌, ◌<◌}
use lib.IntN.{pos}
use mir.Facts.{to_z-of_z}
use Rattle.whole.specs.Within.{up, dn}
use Rattle.whole.proofs.Linear.{le-true, le_false}
use Rattle.earlier_passes.proofs.Quotients.{quot_up, fits_floor, fits_next, fits_quot, fits_down, down_quot}
use Rattle.earlier_passes.proofs.floors.floor2.Goals as goal

pub returns-then-x-ge0 : goal.returns-then-x-ge0
returns-then-x-ge0 c = let above : dn c.args.x ≤ up c.args.x = let f = c.ranges.x in let t = le-true (pos 0) c.args.x (simp to_z-of_z at c.if-x-ge0.true) in omega arith in
    search (rules, fits_floor, quot_up, above)

pub returns-else-x-ge0 : goal.returns-else-x-ge0
returns-else-x-ge0 c = let below : up c.args.x < dn c.args.x = let f = c.ranges.x in let t = le_false (pos 0) c.args.x (simp to_z-of_z at c.if-x-ge0.false) in omega arith in
    search (rules, fits_next, fits_quot, fits_down, below) ∙ down_quot _ _ below c.ranges.x
