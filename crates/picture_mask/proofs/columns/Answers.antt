-- `picture_mask::columns` masks columns through working memory. Assumes nothing.
use mathlib.Core.Path.{refl}
use Prim.Native.Nat.{◌+◌, ◌*◌}
use native.Mathlib.Omega.{arith}
use Rattle.line.specs.Cells.{low_side}
use Rattle.transfer.proofs.Parting.{lines_back}
use Rattle.picture_mask.proofs.Local.{bytes_local}
use Rattle.picture_mask.proofs.Taking.{parts_of, masked_lines, bytes_taken}
use Rattle.picture_mask.proofs.columns.Goals as goal

pub mask-requires : goal.mask-requires
mask-requires c = let a = c.args in let t = c.take.ensures 0 in let x = c.requires.strip in
    rw c.parted.ensures (parts_of 0 (0 + low_side a.n * a.lanes) a.lanes a.n _ refl x.some (omega (arith, t.size, x.room)) (bytes_taken t c.requires.in_buffer.some c.requires.binary))

pub returns : goal.returns
returns c = let a = c.args in
    lines_back (bytes_local a.kernel) (c.take.ensures 0)
    (masked_lines 0 (0 + low_side a.n * a.lanes) a.lanes a.n _ refl a.kernel _ (rw c.parted.ensures at c.mask.ensures)) (c.put.ensures 0)
