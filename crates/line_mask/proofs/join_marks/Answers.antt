use native.Mathlib.Omega.{arith}
use Rattle.line_mask.proofs.Strips.{joined_more}
use Rattle.line_mask.proofs.join_marks.Goals as goal

pub loop-k-preserved : goal.loop-k-preserved
loop-k-preserved c = let l = c.loop-k in (omega arith, joined_more _ _ _ _ l.k l.marks (omega arith) c.requires.apart (omega arith) l.invariant.1)
