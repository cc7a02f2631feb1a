-- `whole::floor2` is floor_div by 2. Assumes nothing.
use mathlib.Core.Path.{refl}
use native.Mathlib.Omega.{arith}
use Rattle.whole.proofs.Raised.{gives_floor}
use Rattle.whole.proofs.floor2.Goals as goal

pub returns : goal.returns
returns c = gives_floor c.ranges.x 2 1073741824 refl (omega arith)
