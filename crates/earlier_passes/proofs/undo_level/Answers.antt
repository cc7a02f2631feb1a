-- `undo_level` takes the columns and then the rows of the plane back. Assumes nothing.
use mathlib.Core.Path.{ap, ◌∙◌}
use Prim.Native.Nat.{◌*◌}
use borrow.Author.Rules.{rules}
use Rattle.line.specs.Transform.{back}
use Rattle.grid.specs.Picture.{row_pass, col_pass}
use Rattle.earlier_passes.proofs.Levels.{level_area, copied, cols_take_back, rows_take_back}
use Rattle.earlier_passes.proofs.undo_level.Goals as goal

pub col_pass-requires : goal.col_pass-requires
col_pass-requires c = let a = c.args in let z = c.requires.one_level in let t = c.take.ensures in
    record { area = level_area _ _ _ z t.size (search rules) (search rules); by_index = cols_take_back a.kernel z c.requires.below (copied a.w (a.w * a.h) a.plane.now a.undone.now _ z.from z.to t) }

pub row_pass-requires : goal.row_pass-requires
row_pass-requires c = let a = c.args in let z = c.requires.one_level in let t = c.take.ensures in let r = c.col_pass in
    record { area = level_area _ _ _ z (r.auto.buf ∙ t.size) (search rules) (search rules); by_index = rows_take_back a.kernel z c.requires.below (r.ensures ∙ ap (col_pass (back a.kernel) a.w a.h) (copied a.w (a.w * a.h) a.plane.now a.undone.now _ z.from z.to t)) }

pub returns : goal.returns
returns c = let a = c.args in let z = c.requires.one_level in let t = c.take.ensures in let U = back a.kernel in
    c.row_pass.ensures ∙ ap (row_pass U a.w a.h) (c.col_pass.ensures ∙ ap (col_pass U a.w a.h) (copied a.w (a.w * a.h) a.plane.now a.undone.now _ z.from z.to t))
