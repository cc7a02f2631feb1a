-- `runs::run_tt` moves each number of the run by its slope over four numbers. Assumes nothing.
use Prim.Native.Nat.{◌+◌}
use Rattle.line.specs.Cells.{cell}
use Rattle.line.specs.Formulas.{slope_tt}
use Rattle.earlier_passes.proofs.Moves.{Moving}
use Rattle.earlier_passes.proofs.runs.run_tt.Given as goal

abbrev pub invariant-loop-k : goal.invariant-loop-k
invariant-loop-k l = Moving l.add (λ i. slope_tt (cell l.x (l.b2 + i)) (cell l.x (l.b + i)) (cell l.x (l.a + i)) (cell l.x (l.a2 + i))) l.at l.n l.initial.t l.t l.k
