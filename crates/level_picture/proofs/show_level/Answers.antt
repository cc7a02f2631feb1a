-- `level_picture::show_level` shows the picture at a level of a plane, or refuses. Assumes nothing.
use mathlib.Core.Path.{sym, ◌∙◌}
use borrow.Author.Rules.{rules}
use Rattle.level_picture.proofs.Areas.{area_below}
use Rattle.level_picture.proofs.show_level.Goals as goal

pub show_area-requires-clause-below : goal.show_area-requires-clause-below
show_area-requires-clause-below c = let a = c.args in area_below a.r a.w a.h a.plane.now (search rules) (sym c.bad_magnitude.ensures ∙ c.in_ok-refuse-7.ensures)
