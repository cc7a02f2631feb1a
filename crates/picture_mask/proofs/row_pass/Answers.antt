use mathlib.Core.Path.{refl, ◌∙◌}
use Prim.Native.Nat.{◌+◌, ◌*◌}
use native.Mathlib.Omega.{arith}
use Rattle.line.specs.Cells.{low_side}
use Rattle.transfer.proofs.Parting.{row_back}
use Rattle.picture_mask.proofs.Local.{bytes_local}
use Rattle.picture_mask.proofs.Taking.{masked_lines}
use Rattle.picture_mask.proofs.Running.{rows_none, rows_more, parted_parts, rows_now}
use Rattle.picture_mask.proofs.row_pass.Goals as goal

pub loop-y-init : goal.loop-y-init
loop-y-init c = (rows_none, refl)

pub mask-requires : goal.mask-requires
mask-requires c = let i = c.loop-y.invariant.0 in rw c.parted.ensures (parted_parts (rows_now c.args.kernel c.requires.area i) c.loop-y.y (omega arith) c.part_row.ensures)

pub loop-y-preserved : goal.loop-y-preserved
loop-y-preserved c = let a = c.args in let l = c.loop-y in let p = c.part_row in (
  rows_more (bytes_local a.kernel) c.requires.area.wide l.invariant.0 (omega arith)
      (row_back (bytes_local a.kernel) p.ensures
      (masked_lines (l.y * a.stride) (l.y * a.stride + low_side a.w * 1) 1 a.w _ refl a.kernel _ (rw c.parted.ensures at c.mask.ensures))),
  p.auto.line ∙ l.invariant.1,
)
