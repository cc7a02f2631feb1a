-- `interface::give_header` puts the numbers of a header into the caller's array. Assumes nothing.
use mathlib.Core.Path.{refl}
use Rattle.interface.proofs.Values.{header_values}
use Rattle.interface.proofs.give_header.Goals as goal

pub returns : goal.returns
returns c = λ s e. header_values s e refl c.wide-rectangles.ensures c.give.ensures c.give-2.ensures
