-- `whole::floor8` is floor_div by 8. Assumes nothing.
use mathlib.Core.Path.{refl}
use native.Mathlib.Omega.{arith}
use Rattle.whole.proofs.Raised.{gives_floor}
use Rattle.whole.proofs.floor8.Goals as goal

pub returns : goal.returns
returns c = gives_floor c.ranges.x 8 268435456 refl (omega arith)
