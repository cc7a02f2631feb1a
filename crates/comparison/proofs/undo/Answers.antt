-- `comparison::undo` gives the undone numbers of a plane of one level, or refuses. Assumes nothing.
use mathlib.Core.Path.{sym, ◌∙◌}
use borrow.Author.Rules.{rules}
use Rattle.refusal.specs.Numbers.{first}
use Rattle.refusal.proofs.Passed.{magnitudes}
use Rattle.comparison.proofs.Entries.{plane_below, undone_of}
use Rattle.comparison.proofs.undo.Goals as goal

pub undo_level-requires-clause-below : goal.undo_level-requires-clause-below
undo_level-requires-clause-below c = let a = c.args in
    plane_below a.w a.h a.plane.now (search rules) (magnitudes _ (sym c.bad_magnitude.ensures ∙ c.in_ok-refuse-4.ensures))

pub returns-clause-fact : goal.returns-clause-fact
unfolding first
returns-clause-fact c = let a = c.args in
    let made = undone_of a.kernel a.w a.h _ (sym c.in_ok-chosen.ensures.1) a.undone.now _ (search rules) (search rules) a.plane.now c.undo_level.ensures in
    search rules
