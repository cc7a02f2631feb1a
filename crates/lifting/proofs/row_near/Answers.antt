-- `lifting::row_near` tells where the row begins that stands for another. Assumes nothing.
use native.Mathlib.Omega.{arith}
use Rattle.line.specs.Transform as line
use Rattle.line.proofs.Border.{inside_in}
use Rattle.lifting.proofs.row_near.Goals as goal

pub row_start-requires : goal.row_start-requires
row_start-requires c = let a = c.args in
    rw c.inside.ensures (omega (arith, c.requires.fact.place (line.inside a.m a.u a.d) 0 (inside_in a.m a.u a.d c.requires.m_nonzero) (omega arith)))
