-- `passes::row_pass` transforms the rows of an area, or takes them back. Assumes nothing.
use lib.IntN.{pos}
use Rattle.grid.proofs.Running.{RowsPassed}
use Rattle.earlier_passes.specs.Passes.{line_transform}
use Rattle.earlier_passes.proofs.passes.row_pass.Given as goal

abbrev pub invariant-loop-y : goal.invariant-loop-y
invariant-loop-y l = RowsPassed (pos 0) (line_transform l.undo l.kernel) l.stride l.w l.h l.y l.initial.buf l.initial.a l.initial.b l.buf l.a l.b
