use mathlib.Core.Path.{sym}
use Prim.Native.Nat.{◌/◌, ◌<◌}
use native.Mathlib.Omega.{arith}
use lib.ListN.{length}
use Rattle.region.proofs.Chunks.{rectangle_at}
use Rattle.region.proofs.Painted.{painted_none, painted_more, painted_all}
use Rattle.region.proofs.Placed.{placed_box, region_placed}
use Rattle.region.proofs.draw_placed.Goals as goal

pub loop-rectangle-init : goal.loop-rectangle-init
loop-rectangle-init c = let f = c.clear.ensures in painted_none (sym f.size) (rw (← f.size) at f)

pub draw_placed-requires-clause-across_bound : goal.draw_placed-requires-clause-across_bound
draw_placed-requires-clause-across_bound c = let l = c.loop-rectangle in
    let lt : l.rectangle-index < length c.args.numbers.now / 4 = omega (arith, c.as_chunks.ensures.front_len) in
    rw (rectangle_at c.args.numbers.now l.rectangle-index _ lt c.as_chunks.ensures.front c.from.ensures)
    (c.requires.right l.rectangle-index lt, c.requires.bottom l.rectangle-index lt)

pub loop-rectangle-preserved : goal.loop-rectangle-preserved
loop-rectangle-preserved c = let l = c.loop-rectangle in
    let lt : l.rectangle-index < length c.args.numbers.now / 4 = omega (arith, c.as_chunks.ensures.front_len) in
    let d = rw (rectangle_at c.args.numbers.now l.rectangle-index _ lt c.as_chunks.ensures.front c.from.ensures) at c.draw_placed.ensures in
    painted_more l.invariant lt d.size
    (λ i h. placed_box _ _ _ c.args.w c.args.h d i (omega (arith, c.clear.ensures.size, c.requires.full)))

pub returns : goal.returns
returns c = region_placed c.requires (painted_all c.loop-rectangle.invariant (omega (arith, c.as_chunks.ensures.front_len)) (sym c.clear.ensures.size))
