use mathlib.Core.Path.{sym, ap, ◌∙◌}
use Prim.Native.Nat.{◌-◌}
use native.Mathlib.Omega.{arith}
use Rattle.line.proofs.Cells.{low_left}
use Rattle.line.specs.Cells.{low_side}
use Rattle.grid.specs.Picture.{col_pass, walk}
use Rattle.grid.proofs.Levels.{walk_none, walk_more}
use Rattle.picture_mask.specs.Areas.{mask_line_bytes}
use Rattle.picture_mask.proofs.Running.{rows_area, cols_area, area_low}
use Rattle.picture_mask.proofs.+cols_rows.Goals as goal

pub cols-rows-requires : goal.cols-rows-requires
cols-rows-requires t c = let a = c.args in let p = c.requires in let r = c.col_pass in
    (omega arith, (rw (low_left a.w, low_left a.h) (area_low (cols_area _ p.area r.auto.buf a.kernel a.w r.ensures)), (omega arith, p.in_bounds.1)))

pub rows-cols-requires : goal.rows-cols-requires
rows-cols-requires t c = let a = c.args in let p = c.requires in let r = c.row_pass in
    (omega arith, (c.if-levels-gt0.true, (rows_area _ p.area r.auto.buf a.kernel a.h r.ensures, (p.in_bounds.0, omega arith))))

pub rows-returns-then-levels-gt0 : goal.rows-returns-then-levels-gt0
rows-returns-then-levels-gt0 t c = let a = c.args in let T = mask_line_bytes a.kernel in
    c.cols.ensures
    ∙ ap (λ P. walk T (a.levels - 1) (low_side a.w) (low_side a.h) (col_pass T a.w a.h P)) c.row_pass.ensures
    ∙ sym (walk_more T a.levels a.w a.h _ c.if-levels-gt0.true)

pub rows-returns-else-levels-gt0 : goal.rows-returns-else-levels-gt0
rows-returns-else-levels-gt0 t c = walk_none _ _ _ _ _ c.if-levels-gt0.false
