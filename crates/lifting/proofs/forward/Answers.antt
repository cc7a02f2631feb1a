-- `lifting::forward` transforms lines by any kernel, in two steps. Assumes nothing.
use native.Mathlib.Omega.{arith}
use Rattle.lifting.proofs.Rows.{parts_as}
use Rattle.lifting.proofs.TwoSteps.{takes_all, done_bounded, steps_done}
use Rattle.lifting.proofs.forward.Goals as goal

pub second_step-requires : goal.second_step-requires
second_step-requires c = let a = c.args in let f = c.first_step.ensures in let d = done_bounded a.kernel c.requires.lows_nonzero.1 c.requires.bounded c.requires.bounded_2 f in record { d_le_e = (omega arith, omega arith, c.requires.lows_nonzero.2, c.requires.lows_nonzero.0); parts = parts_as c.requires.parts f.size; second_takes = takes_all a.p.lows d.0 d.1 (omega arith) a.kernel }

pub returns : goal.returns
returns c = steps_done c.args.kernel c.requires.lows_nonzero.1 c.requires.lows_nonzero.2 c.first_step.ensures c.second_step.ensures
