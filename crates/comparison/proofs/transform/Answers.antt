-- `comparison::transform` gives the plane of a picture at one level, or refuses. Assumes nothing.
use mathlib.Core.Path.{sym, ◌∙◌}
use borrow.Author.Rules.{rules}
use Rattle.refusal.specs.Numbers.{first}
use Rattle.refusal.proofs.Passed.{samples}
use Rattle.comparison.proofs.Entries.{samples_below, coefficients_written}
use Rattle.comparison.proofs.transform.Goals as goal

pub transform_level-requires-clause-below : goal.transform_level-requires-clause-below
transform_level-requires-clause-below c = let a = c.args in
    samples_below a.w a.h a.samples.now (search rules) (samples 10 _ (sym c.bad_sample.ensures ∙ c.in_ok-refuse-4.ensures))

pub returns-clause-fact : goal.returns-clause-fact
unfolding first
returns-clause-fact c = let a = c.args in
    let made = coefficients_written a.kernel a.w a.h _ (sym c.in_ok-chosen.ensures.1) a.plane.now _ (search rules) (search rules) a.samples.now c.transform_level.ensures in
    search rules
