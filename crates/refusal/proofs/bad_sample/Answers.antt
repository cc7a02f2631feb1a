use Rattle.std.proofs.Common.{rules}
use Rattle.refusal.specs.Tests.{bad_sample}
use Rattle.refusal.proofs.bad_sample.Goals as goal

pub returns : goal.returns
unfolding bad_sample
returns c = c.any_cell.ensures 0 _ (λ k h r p. search rules)
