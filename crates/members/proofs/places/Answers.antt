use mathlib.Core.Path.{refl}
use native.Mathlib.Omega.{arith}
use Rattle.members.proofs.Collection.{collected_none, collected_off}
use Rattle.members.proofs.places.Goals as goal

pub loop-b-init : goal.loop-b-init
loop-b-init c = (omega arith, refl, collected_none)

pub loop-b-preserved-then-among-eq0 : goal.loop-b-preserved-then-among-eq0
loop-b-preserved-then-among-eq0 c = let l = c.loop-b in (omega arith, l.invariant.1, collected_off 64 (omega arith) (omega (arith, c.among.ensures)) l.invariant.2)
