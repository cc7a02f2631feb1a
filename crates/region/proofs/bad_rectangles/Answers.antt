-- `region::bad_rectangles` is the test of refusal 8. Assumes nothing.
use mathlib.Core.Path.{◌∙◌}
use Rattle.region.proofs.Chunks.{any_rectangle}
use Rattle.region.proofs.bad_rectangles.Goals as goal

pub returns : goal.returns
returns c = rw c.as_chunks.ensures.front at c.any_bad.ensures ∙ any_rectangle c.args.w c.args.h c.args.numbers.now
