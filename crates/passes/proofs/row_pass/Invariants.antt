-- `passes::row_pass` transforms the rows of an area. The loop's invariant: the first y rows are transformed. Assumes nothing.
use lib.IntN.{pos}
use Rattle.grid.proofs.Running.{RowsPassed}
use Rattle.line.specs.Transform.{forward}
use Rattle.passes.proofs.row_pass.Given as goal

abbrev pub invariant-loop-y : goal.invariant-loop-y
invariant-loop-y l = RowsPassed (pos 0) (forward l.kernel) l.stride l.w l.h l.y l.initial.l l.initial.q l.initial.q l.l l.q l.q
