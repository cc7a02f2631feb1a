use mathlib.Core.Path.{◌∙◌}
use native.Mathlib.Omega.{arith}
use lib.Dec.{eqb}
use lib.ListN.{get_or}
use Rattle.bitplane.proofs.Classes.{class_test}
use Rattle.scan.specs.Inner.{mark_count}
use Rattle.line.proofs.Counts.{counted_none, counted_more, counted_all, counted_next, test_one}
use Rattle.scan.proofs.mark_count.Goals as goal

pub loop-mark-init : goal.loop-mark-init
loop-mark-init c = counted_none

pub overflow_add-n : goal.overflow_add-n
overflow_add-n c = let marked = eqb (get_or c.args.mask.now c.loop-mark.mark-index 0) 1 in
    omega (arith, counted_next marked c.loop-mark.invariant (c.from-n.ensures ∙ test_one marked))

pub loop-mark-preserved : goal.loop-mark-preserved
loop-mark-preserved c = let mask = c.args.mask.now in let i = c.loop-mark.mark-index in
    counted_more c.loop-mark.invariant (omega arith) (rw (class_test mask 1 i (omega arith)) at (c.from-n.ensures ∙ test_one (eqb (get_or mask i 0) 1)))

pub returns : goal.returns
unfolding mark_count
returns c = counted_all c.loop-mark.invariant (omega arith)
