-- `lifting::forward` transforms a strip by any kernel. Assumes nothing.
use Rattle.earlier_passes.proofs.Transforms.{forward_a, forward_tt}
use Rattle.earlier_passes.proofs.lifting.forward.Goals as goal

pub returns-in-SPlusP : goal.returns-in-SPlusP
returns-in-SPlusP c = rw c.in-SPlusP.is (forward_a _ _ _ _ _ _ c.forward_pairs.ensures)

pub returns-in-TT : goal.returns-in-TT
returns-in-TT c = rw c.in-TT.is (forward_tt _ _ _ _ _ _ c.forward_pairs-in-TT.ensures)
