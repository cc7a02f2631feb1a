-- `whole::floor4` is floor_div by 4. Assumes nothing.
use mathlib.Core.Path.{refl}
use native.Mathlib.Omega.{arith}
use Rattle.whole.proofs.Raised.{gives_floor}
use Rattle.whole.proofs.floor4.Goals as goal

pub returns : goal.returns
returns c = gives_floor c.ranges.x 4 536870912 refl (omega arith)
