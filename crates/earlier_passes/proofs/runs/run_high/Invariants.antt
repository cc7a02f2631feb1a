-- `runs::run_high` moves each number of the run by the mean of the numbers around it. Assumes nothing.
use Prim.Native.Nat.{◌+◌}
use Rattle.line.specs.Cells.{cell}
use Rattle.line.specs.Formulas.{between}
use Rattle.earlier_passes.proofs.Moves.{Moving}
use Rattle.earlier_passes.proofs.runs.run_high.Given as goal

abbrev pub invariant-loop-k : goal.invariant-loop-k
invariant-loop-k l = Moving l.add (λ i. between (cell l.x (l.at + i)) (cell l.x (l.a + i))) l.at l.n l.initial.t l.t l.k
