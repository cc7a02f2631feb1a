-- `lifting::lift_edge` moves rows one at a time. The loop's invariant: the rows from a up to n are moved. Assumes nothing.
use Prim.Native.Nat.{◌≤◌}
use Rattle.earlier_passes.specs.Lifting.{Lifted}
use Rattle.earlier_passes.proofs.lifting.lift_edge.Given as goal

abbrev pub invariant-loop-n : goal.invariant-loop-n
invariant-loop-n l = (l.a ≤ l.n) × (l.n ≤ l.b) × Lifted l.s l.add l.m l.lanes l.a l.n l.initial.t l.x l.t
