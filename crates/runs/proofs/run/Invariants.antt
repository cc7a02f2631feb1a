-- `runs::run` moves each number of the run by the step's amount. Assumes nothing.
use Rattle.runs.specs.Steps.{amount_at}
use Rattle.runs.proofs.Moves.{Moving}
use Rattle.runs.proofs.run.Given as goal

abbrev pub invariant-loop-k : goal.invariant-loop-k
invariant-loop-k g l = Moving l.add (amount_at g.S.Lift.step l.initial.l l.p) l.p.at l.n l.initial.l l.l l.k
