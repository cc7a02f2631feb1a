-- `picture_mask::placed_rows` masks the rows of a placed picture, each in its two parts. Assumes nothing.

use Rattle.grid.specs.Placed.{on_woven}
use Rattle.picture_mask.specs.Areas.{mask_line_bytes}
use Rattle.picture_mask.proofs.Running.{RowsMasked}
use Rattle.picture_mask.proofs.placed_rows.Given as goal

abbrev pub invariant-loop-y : goal.invariant-loop-y
invariant-loop-y l = RowsMasked (on_woven (mask_line_bytes l.kernel)) l.w l.w l.h l.y l.initial.marks l.marks
