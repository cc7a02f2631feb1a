use borrow.Author.Rules.{rules}
use mathlib.Core.Path.{◌≡◌, ◌∙◌}
use native.Mathlib.Omega.{arith}
use Rattle.whole.proofs.Linear.{reading}
use Rattle.earlier_passes.specs.Runs.{amount_at}
use Rattle.earlier_passes.specs.declared.runs.Step.TheVariants.{Low}
use Rattle.earlier_passes.proofs.Moves.{moving_more}
use Rattle.earlier_passes.proofs.runs.run_low.Goals as goal

pub loop-k-preserved : goal.loop-k-preserved
loop-k-preserved c = let plain : c.smoothing-amount.result ≡ amount_at Low c.args.x.now c.args.p c.loop-k.k = c.smoothing-amount.ensures ∙ search reading in
    moving_more c.loop-k.invariant (search rules) c.smoothing-amount.type_inv plain (omega arith) c.shifted.type_inv c.shifted.ensures
