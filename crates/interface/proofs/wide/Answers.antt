use mathlib.Core.Path.{◌∙◌}
use native.Mathlib.Omega.{arith}
use Rattle.line.proofs.Lists.{is_listed}
use Rattle.interface.proofs.wide.Goals as goal

pub returns : goal.returns
returns c = let l = c.loop-i in is_listed 128 _ 0 l.value-items (l.invariant.2.size ∙ l.invariant.1) (λ k h. l.invariant.2.on k (omega arith) (omega arith))
