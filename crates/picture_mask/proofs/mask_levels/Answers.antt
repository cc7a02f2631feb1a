-- `picture_mask::mask_levels` makes a mask in the place of its region, which is placed. Assumes nothing.
use mathlib.Core.Path.{◌∙◌}
use Prim.Native.Nat.{ℕ}
use native.Mathlib.Omega.{arith}
use lib.ListN.{length-replicate}
use Rattle.line.proofs.Cells.{low_left}
use Rattle.picture_mask.specs.Areas.{Whole}
use Rattle.picture_mask.proofs.Running.{rows_whole, cols_whole}
use Rattle.picture_mask.proofs.Entry.{region_whole, low_area, mask_result}
use Rattle.picture_mask.proofs.mask_levels.Goals as goal

pub placed_cols-requires : goal.placed_cols-requires
placed_cols-requires c = let whole : Whole c.args.w c.args.h c.args.marks.now = region_whole c.args.levels _ _ _ c.requires in
    let after_rows : Whole c.args.w c.args.h c.placed_rows.new.marks = rows_whole c.args.kernel whole c.placed_rows.auto.marks _ c.placed_rows.ensures in
    after_rows

pub rows-requires : goal.rows-requires
rows-requires c = let whole : Whole c.args.w c.args.h c.args.marks.now = region_whole c.args.levels _ _ _ c.requires in
    let after_rows : Whole c.args.w c.args.h c.placed_rows.new.marks = rows_whole c.args.kernel whole c.placed_rows.auto.marks _ c.placed_rows.ensures in
    let after_cols : Whole c.args.w c.args.h c.placed_cols.new.marks = cols_whole c.args.kernel after_rows c.placed_cols.auto.marks c.placed_cols.ensures in
    let n = length-replicate {A = ℕ} 32768 0 in let m = length-replicate {A = ℕ} 1024 0 in record { area = rw (low_left c.args.w, low_left c.args.h) (low_area c.args.levels _ _ _ c.requires _ after_cols); in_bounds = (omega arith, omega arith) }

pub returns : goal.returns
returns c = mask_result c.args.levels _ _ _ c.requires c.args.kernel _ _ _ (c.rows.auto.buf ∙ c.placed_cols.auto.marks ∙ c.placed_rows.auto.marks)
    c.placed_rows.ensures c.placed_cols.ensures
    (rw (low_left c.args.w, low_left c.args.h) at c.rows.ensures)
