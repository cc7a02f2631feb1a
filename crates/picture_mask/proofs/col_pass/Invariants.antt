-- `picture_mask::col_pass` masks the columns of an area, a strip at a time. Assumes nothing.
use mathlib.Core.Path.{◌≡◌}
use Prim.Native.Nat.{min}
use lib.ListN.{length}
use Rattle.picture_mask.specs.Areas.{mask_line_bytes}
use Rattle.picture_mask.proofs.Running.{ColsMasked}
use Rattle.picture_mask.proofs.col_pass.Given as goal

abbrev pub invariant-loop-x : goal.invariant-loop-x
invariant-loop-x l = ColsMasked (mask_line_bytes l.kernel) l.stride l.w l.h (min l.x l.w) l.initial.buf l.buf × (length l.strip ≡ length l.initial.strip)
