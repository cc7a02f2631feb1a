-- `runs::run_a` moves each number of the run by its slope. Assumes nothing.
use Prim.Native.Nat.{◌+◌}
use Rattle.line.specs.Cells.{cell}
use Rattle.line.specs.Formulas.{slope_a}
use Rattle.earlier_passes.proofs.Moves.{Moving}
use Rattle.earlier_passes.proofs.runs.run_a.Given as goal

abbrev pub invariant-loop-k : goal.invariant-loop-k
invariant-loop-k l = Moving l.add (λ i. slope_a (cell l.x (l.b + i)) (cell l.x (l.a + i))) l.at l.n l.initial.t l.t l.k
