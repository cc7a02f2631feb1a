-- `lifting::back` takes a strip back by any kernel. Assumes nothing.
use Rattle.earlier_passes.proofs.Transforms.{back_a, back_tt}
use Rattle.earlier_passes.proofs.lifting.back.Goals as goal

pub returns-in-SPlusP : goal.returns-in-SPlusP
returns-in-SPlusP c = rw c.in-SPlusP.is (back_a _ _ _ _ _ _ c.back_pairs.ensures)

pub returns-in-TT : goal.returns-in-TT
returns-in-TT c = rw c.in-TT.is (back_tt _ _ _ _ _ _ c.back_pairs-in-TT.ensures)
