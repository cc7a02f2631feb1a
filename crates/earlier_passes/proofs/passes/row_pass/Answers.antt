use native.Mathlib.Omega.{arith}
use mathlib.Core.Path.{◌≡◌}
use Prim.Native.Nat.{◌*◌, ◌/◌}
use Rattle.grid.proofs.Running.{rows_none, rows_more}
use Rattle.earlier_passes.proofs.Running.{line_local, area_same, row_strips, row_in, row_takes}
use Rattle.earlier_passes.proofs.passes.row_pass.Goals as goal

pub loop-y-init : goal.loop-y-init
loop-y-init c = rows_none _ _ _ _ _ _ _ _

pub lines-requires : goal.lines-requires
lines-requires c = let l = c.loop-y in let p = l.invariant in let z = area_same l.buf l.a l.b c.requires.area p.same_l p.same_a p.same_b in
    record { in_buffer = row_in z l.y (omega arith); strips = row_strips z; by_index = row_takes c.requires.area p c.requires.by_index (omega arith) }

pub loop-y-preserved : goal.loop-y-preserved
loop-y-preserved c = let l = c.loop-y in let k = c.lines.auto in let e : 2 * (c.args.w / 2) ≡ c.args.w = omega (arith, c.requires.area.even_w) in rows_more (line_local c.args.undo c.args.kernel) c.requires.area.wide l.invariant (omega arith) (rw e at c.lines.ensures) k.a k.b
