-- `wavelet::undo_levels` undoes the levels, from the deepest. Assumes nothing.
use Rattle.std.proofs.Common.{arith}
use lib.IntN.{pos}
use Rattle.line.specs.Cells.{low_side}
use Rattle.line.proofs.Cells.{low_left}
use Rattle.plane.proofs.Bounds.{below_part}
use Rattle.wavelet.proofs.Walking.{levels_more, levels_apart, level_alike, cols_back, rows_back, level_more, none_undone}
use Rattle.wavelet.proofs.+undo_levels.Goals as goal

pub undo_levels-requires : goal.undo_levels-requires
undo_levels-requires t c =
    let a = c.args in let n = c.if-levels-gt0.true in
    rw (low_left a.w, low_left a.h) (omega arith, (levels_more c.requires.levels n, (levels_apart c.requires.levels_2 n, (omega arith, below_part (low_side a.w) (low_side a.h) c.requires.below (omega arith) (omega arith)))))

pub level_back-requires-clause-by_index : goal.level_back-requires-clause-by_index
level_back-requires-clause-by_index t c =
    let a = c.args in let z = c.requires.levels in let n = c.if-levels-gt0.true in
    let e = level_alike a.levels a.width a.stride a.w a.h a.kernel a.plane.now a.l.now _ z (rw (low_left a.w, low_left a.h) at c.undo_levels.ensures) in
    cols_back a.kernel n z.few c.requires.below e

pub level_back-requires-clause-by_index_2 : goal.level_back-requires-clause-by_index_2
level_back-requires-clause-by_index_2 t c =
    let a = c.args in let z = c.requires.levels in let n = c.if-levels-gt0.true in
    let e = level_alike a.levels a.width a.stride a.w a.h a.kernel a.plane.now a.l.now _ z (rw (low_left a.w, low_left a.h) at c.undo_levels.ensures) in
    rows_back a.kernel n z.few c.requires.below e

pub returns-then-levels-gt0 : goal.returns-then-levels-gt0
returns-then-levels-gt0 t c =
    let a = c.args in
    level_more a.levels a.width a.stride a.w a.h a.kernel a.plane.now a.l.now _ c.requires.levels (rw (low_left a.w, low_left a.h) at c.undo_levels.ensures) c.if-levels-gt0.true c.requires.below c.level_back.ensures

pub returns-else-levels-gt0 : goal.returns-else-levels-gt0
returns-else-levels-gt0 t c =
    let a = c.args in none_undone a.kernel a.plane.now a.l.now c.requires.levels c.requires.levels_2 (omega arith) (c.copy_rows.ensures (pos 0))
