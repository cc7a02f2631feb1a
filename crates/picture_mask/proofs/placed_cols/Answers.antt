-- `picture_mask::placed_cols` masks the columns of a placed picture, all at once. Assumes nothing.
use mathlib.Core.Path.{refl}
use Prim.Native.Nat.{◌+◌, ◌*◌}
use Rattle.line.specs.Cells.{low_side}
use Rattle.grid.specs.Placed.{on_woven}
use Rattle.grid.proofs.Parted.{on_woven_local}
use Rattle.picture_mask.specs.Areas.{mask_line_bytes}
use Rattle.picture_mask.proofs.Local.{bytes_local}
use Rattle.picture_mask.proofs.Taking.{masked_lines}
use Rattle.picture_mask.proofs.Running.{col_parts, cols_at_once}
use Rattle.picture_mask.proofs.placed_cols.Goals as goal

pub mask-requires : goal.mask-requires
mask-requires c = rw c.parted.ensures (col_parts c.requires)

pub returns : goal.returns
returns c = let a = c.args in
    cols_at_once c.requires (on_woven (mask_line_bytes a.kernel)) (on_woven_local _ (bytes_local a.kernel))
    (masked_lines 0 (0 + low_side a.h * a.w) a.w a.h _ refl a.kernel _ (rw c.parted.ensures at c.mask.ensures))
