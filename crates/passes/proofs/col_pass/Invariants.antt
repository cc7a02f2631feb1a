-- `passes::col_pass` transforms the columns of an area, a strip at a time. The loop's invariant: the columns up to x are transformed.
-- Assumes nothing.
use Prim.Native.Nat.{◌-◌}
use lib.IntN.{pos}
use Rattle.line.specs.Transform.{forward}
use Rattle.grid.proofs.Running.{ColsPassed}
use Rattle.passes.proofs.col_pass.Given as goal

abbrev pub invariant-loop-x : goal.invariant-loop-x
invariant-loop-x l = ColsPassed (pos 0) (forward l.kernel) l.stride l.w l.h l.x l.initial.l l.initial.q l.initial.q l.l l.q l.q

abbrev pub decreases-loop-x : goal.decreases-loop-x
decreases-loop-x l = l.w - l.x
