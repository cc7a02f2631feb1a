-- `steps::second_of` is mean − floor (difference / 2), which is the second number of the pair. Assumes nothing.
use mathlib.Core.Path.{◌∙◌}
use borrow.Author.Rules.{sfits_of}
use Rattle.whole.proofs.Run.{asks, gives}
use Rattle.steps.proofs.Sums.{second_read, second_run}
use Rattle.steps.proofs.second_of.Goals as goal

pub overflow_sub-result : goal.overflow_sub-result
overflow_sub-result c = asks (second_run c.args.mean c.floor2.ensures c.ranges.difference c.ranges.mean (sfits_of c.floor2.type_inv) c.requires)

pub returns : goal.returns
returns c = gives (second_run c.args.mean c.floor2.ensures c.ranges.difference c.ranges.mean (sfits_of c.floor2.type_inv) c.requires) ∙ second_read c.args.mean c.floor2.ensures c.ranges.difference
