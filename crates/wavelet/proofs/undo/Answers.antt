-- `wavelet::undo` gives the undone numbers of a plane, or refuses. Assumes nothing.
use mathlib.Core.Path.{sym, ◌∙◌}
use borrow.Author.Rules.{rules}
use Rattle.refusal.proofs.Passed.{inside, sides, magnitudes}
use Rattle.wavelet.proofs.Entries.{whole_levels, plane_below}
use Rattle.wavelet.proofs.undo.Goals as goal

pub undo_area-requires-clause-levels : goal.undo_area-requires-clause-levels
undo_area-requires-clause-levels c =
    let v = inside 1 5 _ (sym c.bad_levels.ensures ∙ c.in_ok-refuse.ensures) in let m = sides _ _ (sym c.bad_size.ensures ∙ c.in_ok-refuse-2.ensures) in
    whole_levels v.1 m (search rules)

pub undo_area-requires-clause-below : goal.undo_area-requires-clause-below
undo_area-requires-clause-below c =
    let a = c.args in plane_below a.w a.h a.plane.now (search rules) (magnitudes _ (sym c.bad_magnitude.ensures ∙ c.in_ok-refuse-5.ensures))
