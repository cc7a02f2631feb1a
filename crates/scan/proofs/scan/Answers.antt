use mathlib.Core.Path.{◌∙◌}
use native.Mathlib.Omega.{arith}
use lib.Dec.{ltb}
use Rattle.whole.proofs.Linear.{reading}
use Rattle.scan.specs.Inner.{sign_count}
use Rattle.line.proofs.Counts.{counted_all, counted_next, test_one}
use Rattle.scan.proofs.Running.{scanned_none, scanned_more, scanned_all}
use Rattle.scan.proofs.scan.Goals as goal

pub loop-c-init : goal.loop-c-init
loop-c-init c = scanned_none

pub overflow_add-signs : goal.overflow_add-signs
overflow_add-signs c = let m = c.unsigned_abs-m.result in
    omega (arith, counted_next (ltb 0 m) c.loop-c.invariant.signs_so_far (c.from-signs.ensures ∙ test_one (ltb 0 m)))

pub loop-c-preserved : goal.loop-c-preserved
loop-c-preserved c = scanned_more c.loop-c.invariant (omega arith) c.max-largest.ensures (c.unsigned_abs-m.ensures.value ∙ search reading) c.from-signs.ensures

pub returns : goal.returns
unfolding sign_count
returns c = record { largest_value = scanned_all c.loop-c.invariant (omega arith); signs_value = counted_all c.loop-c.invariant.signs_so_far (omega arith) }
