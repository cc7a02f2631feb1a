-- `picture_mask::row_pass` masks the rows of an area. Assumes nothing.
use mathlib.Core.Path.{◌≡◌}
use lib.ListN.{length}
use Rattle.picture_mask.specs.Areas.{mask_line_bytes}
use Rattle.picture_mask.proofs.Running.{RowsMasked}
use Rattle.picture_mask.proofs.row_pass.Given as goal

abbrev pub invariant-loop-y : goal.invariant-loop-y
invariant-loop-y l = RowsMasked (mask_line_bytes l.kernel) l.stride l.w l.h l.y l.initial.buf l.buf × (length l.line ≡ length l.initial.line)
