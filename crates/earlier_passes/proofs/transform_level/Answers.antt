-- `transform_level` passes the rows and then the columns of the samples' picture. Assumes nothing.
use mathlib.Core.Path.{sym, ap, ◌∙◌}
use borrow.Author.Rules.{rules}
use Rattle.line.specs.Transform.{forward}
use Rattle.grid.specs.Picture.{row_pass, col_pass}
use Rattle.earlier_passes.proofs.Levels.{level_area, widened, rows_take, cols_take}
use Rattle.earlier_passes.proofs.transform_level.Goals as goal

pub row_pass-requires : goal.row_pass-requires
row_pass-requires c = let a = c.args in let z = c.requires.one_level in let t = c.widen.ensures in
    record { area = level_area _ _ _ z t.size (search rules) (search rules); by_index = rows_take a.kernel z c.requires.below (widened a.w a.samples.now a.plane.now _ (z.from ∙ sym z.to) t) }

pub col_pass-requires : goal.col_pass-requires
col_pass-requires c = let a = c.args in let z = c.requires.one_level in let t = c.widen.ensures in let r = c.row_pass in
    record { area = level_area _ _ _ z (r.auto.buf ∙ t.size) (search rules) (search rules); by_index = cols_take a.kernel z c.requires.below (r.ensures ∙ ap (row_pass (forward a.kernel) a.w a.h) (widened a.w a.samples.now a.plane.now _ (z.from ∙ sym z.to) t)) }

pub returns : goal.returns
returns c = let a = c.args in let z = c.requires.one_level in let t = c.widen.ensures in let T = forward a.kernel in
    c.col_pass.ensures ∙ ap (col_pass T a.w a.h) (c.row_pass.ensures ∙ ap (row_pass T a.w a.h) (widened a.w a.samples.now a.plane.now _ (z.from ∙ sym z.to) t))
