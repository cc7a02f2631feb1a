use native.Mathlib.Omega.{arith}
use Rattle.region.proofs.Boxes.{drawn_more}
use Rattle.region.proofs.Rectangle.draw.Goals as goal

pub loop-y-preserved : goal.loop-y-preserved
loop-y-preserved c = let l = c.loop-y in
    (omega arith, omega arith, drawn_more c.requires.0 l.invariant.0 l.invariant.2 c.fill.ensures)
