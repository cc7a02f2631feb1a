-- `wavelet::rows` and `wavelet::cols` walk the levels. Assumes nothing.
use Rattle.std.proofs.Common.{◌-◌, ℤ, sym, ap, ◌∙◌, arith}
use Rattle.line.specs.Cells.{low_side}
use Rattle.line.specs.Transform.{forward}
use Rattle.line.proofs.Cells.{low_left}
use Rattle.grid.specs.Picture.{Picture, col_pass, walk}
use Rattle.grid.proofs.Levels.{walk_none, walk_more}
use Rattle.wavelet.specs.Wavelet.{coefficients_of}
use Rattle.wavelet.proofs.Walking as walking
use Rattle.wavelet.proofs.Walking.{levels_same, levels_more, rows_take, cols_take}
use Rattle.wavelet.proofs.+cols_rows.Goals as goal

pub cols-col_pass-requires-clause-by_index : goal.cols-col_pass-requires-clause-by_index
cols-col_pass-requires-clause-by_index t c = cols_take c.requires.levels_nonzero c.requires.levels.few c.requires.below

pub cols-rows-requires : goal.cols-rows-requires
cols-rows-requires t c =
    let a = c.args in let z = c.requires.levels in let n = c.requires.levels_nonzero in let p = c.col_pass in
    rw (low_left a.w, low_left a.h) (omega arith, (levels_more (levels_same z p.auto.l) n, (omega arith, walking.cols_below n z.few a.kernel c.requires.below p.ensures)))

pub rows-row_pass-requires-clause-by_index : goal.rows-row_pass-requires-clause-by_index
rows-row_pass-requires-clause-by_index t c = rows_take c.if-levels-gt0.true c.requires.levels.few c.requires.below

pub rows-cols-requires : goal.rows-cols-requires
rows-cols-requires t c =
    let n = c.if-levels-gt0.true in let z = c.requires.levels in let p = c.row_pass in
    (omega arith, (n, (levels_same z p.auto.l, (omega arith, walking.rows_below n z.few c.args.kernel c.requires.below p.ensures))))

pub rows-returns-then-levels-gt0 : goal.rows-returns-then-levels-gt0
rows-returns-then-levels-gt0 t c =
    let a = c.args in let T = forward a.kernel in
    c.cols.ensures ∙ ap (λ (P : Picture ℤ). walk T (a.levels - 1) (low_side a.w) (low_side a.h) (col_pass T a.w a.h P)) c.row_pass.ensures
    ∙ sym (walk_more T a.levels a.w a.h (coefficients_of a.stride a.l.now) c.if-levels-gt0.true)

pub rows-returns-else-levels-gt0 : goal.rows-returns-else-levels-gt0
rows-returns-else-levels-gt0 t c = let a = c.args in walk_none (forward a.kernel) a.levels a.w a.h (coefficients_of a.stride a.l.now) (omega arith)
