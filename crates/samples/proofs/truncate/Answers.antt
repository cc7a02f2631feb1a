-- `samples::truncate` drops planes, or refuses. Assumes nothing.
use mathlib.Core.Path.{sym, ◌∙◌}
use Rattle.refusal.proofs.Passed.{magnitudes}
use Rattle.samples.proofs.truncate.Goals as goal

pub truncate_all-requires-clause-accepted : goal.truncate_all-requires-clause-accepted
truncate_all-requires-clause-accepted c = record { each = magnitudes _ (sym c.bad_magnitude.ensures ∙ c.in_ok-refuse-6.ensures) }
