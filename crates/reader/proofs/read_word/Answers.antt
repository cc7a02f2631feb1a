use native.Mathlib.Omega.{arith}
use Rattle.members.proofs.Index.{flag_off}
use Rattle.reader.proofs.Passes.{more_off}
use Rattle.reader.proofs.read_word.Goals as goal

pub loop-j-preserved-then-word-j-eq0 : goal.loop-j-preserved-then-word-j-eq0
loop-j-preserved-then-word-j-eq0 c = let l = c.loop-j in (omega arith, l.invariant.1, more_off 64 (omega arith) (flag_off c.requires.2 l.j (omega arith) c.if-word-j-eq0.true) l.invariant.2)
