-- `passes::col_pass` transforms the columns of an area, or takes them back, a strip at a time. Assumes nothing.
use Prim.Native.Nat.{◌-◌}
use lib.IntN.{pos}
use Rattle.grid.proofs.Running.{ColsPassed}
use Rattle.earlier_passes.specs.Passes.{line_transform}
use Rattle.earlier_passes.proofs.passes.col_pass.Given as goal

abbrev pub invariant-loop-x : goal.invariant-loop-x
invariant-loop-x l = ColsPassed (pos 0) (line_transform l.undo l.kernel) l.stride l.w l.h l.x l.initial.buf l.initial.a l.initial.b l.buf l.a l.b

abbrev pub decreases-loop-x : goal.decreases-loop-x
decreases-loop-x l = l.w - l.x
