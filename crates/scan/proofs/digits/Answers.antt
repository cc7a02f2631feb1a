-- `scan::digits` is the number of binary digits. Assumes nothing.
use mathlib.Core.Path.{◌∙◌}
use native.Mathlib.Omega.{arith}
use Rattle.scan.proofs.PlaneCounts.{digits_power, digits_zero}
use Rattle.scan.proofs.digits.Goals as goal

pub returns-then-m-eq0 : goal.returns-then-m-eq0
returns-then-m-eq0 c = digits_zero c.args.m (omega arith)

pub returns-else-m-eq0 : goal.returns-else-m-eq0
returns-else-m-eq0 c = c.from.ensures ∙ digits_power c.args.m c.ilog2.result (omega arith) c.ilog2.ensures.power_le c.ilog2.ensures.next_power_gt
