use mathlib.Core.Path.{refl}
use Prim.Native.Nat.{◌+◌, ◌*◌}
use native.Mathlib.Omega.{arith}
use Rattle.line.specs.Cells.{low_side}
use Rattle.grid.proofs.Parted.{on_woven_local}
use Rattle.picture_mask.proofs.Local.{bytes_local}
use Rattle.picture_mask.proofs.Taking.{masked_lines}
use Rattle.picture_mask.proofs.Running.{rows_none, rows_more, row_parts, rows_whole}
use Rattle.picture_mask.proofs.placed_rows.Goals as goal

pub loop-y-init : goal.loop-y-init
loop-y-init c = rows_none

pub mask-requires : goal.mask-requires
mask-requires c = let l = c.loop-y in rw c.parted.ensures (row_parts (rows_whole c.args.kernel c.requires l.invariant.same l.y l.invariant.passed) l.y (omega arith))

pub loop-y-preserved : goal.loop-y-preserved
loop-y-preserved c = let a = c.args in let l = c.loop-y in
    rows_more (on_woven_local _ (bytes_local a.kernel)) (omega arith) l.invariant (omega arith)
    (masked_lines (l.y * a.w) (l.y * a.w + low_side a.w * 1) 1 a.w _ refl a.kernel _ (rw c.parted.ensures at c.mask.ensures))
