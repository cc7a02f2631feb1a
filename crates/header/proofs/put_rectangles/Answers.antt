use Rattle.header.proofs.Writing.{listed_none, listed_more}
use Rattle.header.proofs.put_rectangles.Goals as goal

pub loop-i-init : goal.loop-i-init
loop-i-init c = listed_none _ _

pub loop-i-preserved : goal.loop-i-preserved
loop-i-preserved c = let l = c.loop-i in listed_more _ l.i c.loop-i-test.true l.invariant c.put_two.ensures
