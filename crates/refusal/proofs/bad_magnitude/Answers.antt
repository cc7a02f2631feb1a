use Rattle.std.proofs.Common.{rules, pos}
use Rattle.refusal.specs.Tests.{bad_magnitude}
use Rattle.refusal.proofs.bad_magnitude.Goals as goal

pub returns : goal.returns
unfolding bad_magnitude
returns c = c.any_cell.ensures (pos 0) _ (λ k h r p. search rules)
