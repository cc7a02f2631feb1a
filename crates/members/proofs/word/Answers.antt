use native.Mathlib.Omega.{arith}
use Rattle.members.proofs.Index.{flags_more}
use Rattle.members.proofs.word.Goals as goal

pub loop-j-preserved : goal.loop-j-preserved
loop-j-preserved c = (omega arith, flags_more (omega arith) c.loop-j.invariant.1 (rw (← c.one.ensures) at c.flag.ensures))
