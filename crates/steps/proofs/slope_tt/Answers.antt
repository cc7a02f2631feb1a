-- `steps::slope_tt` is its formula. Assumes nothing.
use mathlib.Core.Path.{◌∙◌}
use borrow.Author.Rules.{sfits_of}
use mir.Syntax.{w32}
use mir.Facts.{to_z-of_z}
use Rattle.whole.proofs.Run.{l, asks}
use Rattle.steps.proofs.Slopes.{rest_run, last_run, slope_read}
use Rattle.steps.proofs.slope_tt.Goals as goal

pub overflow_add-floor2 : goal.overflow_add-floor2
overflow_add-floor2 c = asks (l (rest_run c.requires.within c.requires.within_2 c.floor2.ensures))

pub overflow_sub-floor2 : goal.overflow_sub-floor2
overflow_sub-floor2 c = asks (rest_run c.requires.within c.requires.within_2 c.floor2.ensures)

pub overflow_add-inner : goal.overflow_add-inner
overflow_add-inner c = asks (last_run c.requires.within c.requires.within_2 c.floor2.ensures c.floor4-rest.ensures)

pub returns : goal.returns
returns c = to_z-of_z {w = w32} (sfits_of c.floor8.type_inv) ∙ slope_read c.requires.within c.requires.within_2 c.floor2.ensures c.floor4-rest.ensures c.floor8.ensures
