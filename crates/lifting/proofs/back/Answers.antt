-- `lifting::back` takes lines back by any kernel, in two steps. Assumes nothing.
use native.Mathlib.Omega.{arith}
use Rattle.lifting.proofs.Rows.{parts_as, rows_bounded}
use Rattle.lifting.proofs.TwoSteps.{undone_bounded, steps_undone}
use Rattle.lifting.proofs.back.Goals as goal

pub first_step-requires : goal.first_step-requires
first_step-requires c = let f = c.second_step.ensures in let d = undone_bounded c.args.kernel c.requires.lows_nonzero.1 c.requires.lows_nonzero.2 c.requires.bounded c.requires.bounded_2 f in record { d_le_e = (omega arith, omega arith, c.requires.lows_nonzero.0); parts = parts_as c.requires.parts f.size; bounded = d.0; rows_within = rows_bounded _ d.1 (omega arith) }

pub returns : goal.returns
returns c = steps_undone c.args.kernel c.requires.lows_nonzero.1 c.requires.lows_nonzero.2 c.second_step.ensures c.first_step.ensures
