-- The walk on bytes is the walk on marks. Assumes nothing.
use mathlib.Core.Path.{◌≡◌, ap, fun_ext}
use mathlib.Core.Bool.{Bool}
use Prim.Native.Nat.{ℕ}
use Rattle.kernel.specs.declared.Kernel.{Kernel}
use Rattle.line.specs.Cells.{Line}
use Rattle.line.specs.Mask.{mask_line, byte_of}
use Rattle.line.proofs.Marks.{mark_of}
use Rattle.grid.specs.Picture.{Picture, walk}
use Rattle.grid.proofs.Mapped.{walk_mapped}
use Rattle.picture_mask.specs.Areas.{bytes, mask_line_bytes}

pub walk-bytes : (k : Kernel) (n w h : ℕ) (B : Picture Bool) → walk (mask_line_bytes k) n w h (bytes B) ≡ bytes (walk (mask_line k) n w h B)
walk-bytes k = walk_mapped byte_of (mask_line k) (mask_line_bytes k)
    (λ w X x. ap (λ (Y : Line Bool). byte_of (mask_line k w Y x)) (fun_ext λ i. mark_of (X i)))
