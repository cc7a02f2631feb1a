use mathlib.Core.Path.{sym}
use Prim.Native.Nat.{◌/◌, ◌<◌}
use native.Mathlib.Omega.{arith}
use lib.ListN.{length}
use Rattle.region.proofs.Chunks.{rectangle_at}
use Rattle.region.proofs.Painted.{painted_none, painted_more, painted_all}
use Rattle.region.proofs.draw.Goals as goal

pub loop-rectangle-init : goal.loop-rectangle-init
loop-rectangle-init c = let f = c.clear.ensures in painted_none (sym f.size) (rw (← f.size) at f)

pub draw-requires : goal.draw-requires
draw-requires c = let l = c.loop-rectangle in
    let lt : l.rectangle-index < length c.args.numbers.now / 4 = omega (arith, c.as_chunks.ensures.front_len) in
    rw (rectangle_at c.args.numbers.now l.rectangle-index _ lt c.as_chunks.ensures.front c.from.ensures)
    (c.requires.right l.rectangle-index lt, omega (arith, c.requires.bottom l.rectangle-index lt, l.invariant.size))

pub loop-rectangle-preserved : goal.loop-rectangle-preserved
loop-rectangle-preserved c = let l = c.loop-rectangle in
    let lt : l.rectangle-index < length c.args.numbers.now / 4 = omega (arith, c.as_chunks.ensures.front_len) in
    let d = rw (rectangle_at c.args.numbers.now l.rectangle-index _ lt c.as_chunks.ensures.front c.from.ensures) at c.draw.ensures in
    painted_more l.invariant lt d.size (λ i h. d.cell i)

pub returns : goal.returns
returns c = painted_all c.loop-rectangle.invariant (omega (arith, c.as_chunks.ensures.front_len)) (sym c.clear.ensures.size)
