-- `wavelet::transform` gives the plane of a picture, or refuses. Assumes nothing.
use mathlib.Core.Path.{sym, ◌∙◌}
use borrow.Author.Rules.{rules}
use lib.Pow.{pow_mono}
use Rattle.refusal.proofs.Passed.{inside, samples}
use Rattle.wavelet.proofs.Entries.{samples_below}
use Rattle.wavelet.proofs.transform.Goals as goal

pub transform_all-requires-clause-below : goal.transform_all-requires-clause-below
transform_all-requires-clause-below c =
    let a = c.args in let s = a.setting in let d = inside 1 10 _ (sym c.bad_depth.ensures ∙ c.in_ok-refuse-2.ensures) in
    samples_below s.width s.height s.depth a.samples.now (search rules) (samples _ _ (sym c.bad_sample.ensures ∙ c.in_ok-refuse-6.ensures)) (pow_mono {j = 10} d.1)
