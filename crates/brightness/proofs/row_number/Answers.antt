use mathlib.Core.Path.{◌∙◌}
use native.Mathlib.Omega.{arith}
use Rattle.line.proofs.Counts.{counted_none, counted_more, counted_all, counted_next, test_one}
use Rattle.brightness.proofs.row_number.Goals as goal

pub loop-byte-init : goal.loop-byte-init
loop-byte-init c = counted_none

pub overflow_add-number : goal.overflow_add-number
overflow_add-number c = omega (arith, counted_next _ c.loop-byte.invariant (c.from-number.ensures ∙ test_one _))

pub loop-byte-preserved : goal.loop-byte-preserved
loop-byte-preserved c = counted_more c.loop-byte.invariant (omega arith) (c.from-number.ensures ∙ test_one _)

pub returns : goal.returns
returns c = counted_all c.loop-byte.invariant (omega arith)
