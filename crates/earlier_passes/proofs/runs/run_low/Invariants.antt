-- `runs::run_low` moves each number of the run by the smoothing of the numbers around it. Assumes nothing.
use Prim.Native.Nat.{◌+◌}
use Rattle.line.specs.Cells.{cell}
use Rattle.line.specs.Formulas.{smoothing}
use Rattle.earlier_passes.proofs.Moves.{Moving}
use Rattle.earlier_passes.proofs.runs.run_low.Given as goal

abbrev pub invariant-loop-k : goal.invariant-loop-k
invariant-loop-k l = Moving l.add (λ i. smoothing (cell l.x (l.b + i)) (cell l.x (l.at + i))) l.at l.n l.initial.t l.t l.k
