use native.Mathlib.Omega.{arith}
use mathlib.Core.Path.{◌≡◌}
use Prim.Native.Nat.{◌*◌, ◌/◌}
use Rattle.grid.proofs.Running.{cols_none, cols_more}
use Rattle.earlier_passes.proofs.Running.{line_local, area_same, col_strips, col_in, col_takes}
use Rattle.earlier_passes.proofs.passes.col_pass.Goals as goal

pub loop-x-init : goal.loop-x-init
loop-x-init c = cols_none _ _ _ _ _ _ _ _

pub lines-requires : goal.lines-requires
lines-requires c = let l = c.loop-x in let p = l.invariant in let z = area_same l.buf l.a l.b c.requires.area p.same_l p.same_a p.same_b in let n = c.least-lanes in
    record { in_buffer = col_in z l.x n.result (omega (arith, n.ensures)) (omega (arith, n.ensures)); strips = col_strips z n.result (omega (arith, n.ensures)); by_index = col_takes c.requires.area p c.requires.by_index n.result (omega (arith, n.ensures)) }

pub loop-x-preserved : goal.loop-x-preserved
loop-x-preserved c = let l = c.loop-x in let n = c.least-lanes in let k = c.lines.auto in let e : 2 * (c.args.h / 2) ≡ c.args.h = omega (arith, c.requires.area.even_h) in cols_more (line_local c.args.undo c.args.kernel) c.requires.area.wide l.invariant n.result (omega (arith, n.ensures)) (rw e at c.lines.ensures) k.a k.b
