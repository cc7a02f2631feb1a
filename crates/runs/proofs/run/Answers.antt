use mathlib.Core.Path.{◌∙◌}
use native.Mathlib.Omega.{arith}
use Rattle.whole.proofs.Linear.{reading}
use Rattle.runs.proofs.Moves.{near_read, amount_read, move_fits, moving_more}
use Rattle.runs.proofs.run.Goals as goal

pub amount-amount-requires : goal.amount-amount-requires
amount-amount-requires g c = near_read c.requires.room c.loop-k.invariant (omega arith) g.S.Lift.step (search reading) c.requires.near

pub shifted-requires : goal.shifted-requires
shifted-requires g c = let amount = c.amount-amount.ensures ∙ amount_read c.requires.room c.loop-k.invariant (omega arith) g.S.Lift.step (search reading) in
    move_fits c.loop-k.invariant (omega arith) (omega arith) c.amount-amount.type_inv amount (c.requires.stays.fits c.loop-k.k (omega arith))

pub loop-k-preserved : goal.loop-k-preserved
loop-k-preserved g c = let amount = c.amount-amount.ensures ∙ amount_read c.requires.room c.loop-k.invariant (omega arith) g.S.Lift.step (search reading) in
    moving_more c.loop-k.invariant (omega arith) (omega arith) c.amount-amount.type_inv amount c.shifted.type_inv c.shifted.ensures
