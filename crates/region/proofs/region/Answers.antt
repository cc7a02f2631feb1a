-- `region::region` makes the region, or refuses. Assumes nothing.
use mathlib.Core.Path.{sym, ◌∙◌}
use borrow.Author.Rules.{rules}
use Rattle.region.proofs.Painted.{rectangles_inside}
use Rattle.region.proofs.region.Goals as goal

pub draw-requires : goal.draw-requires
draw-requires c = rectangles_inside _ _ _ (sym c.bad_rectangles.ensures ∙ c.in_ok-refuse-3.ensures) (search rules)
