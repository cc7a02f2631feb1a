-- `writer::gives` is what a coefficient gives to a plane. Assumes nothing.
use mathlib.Core.Path.{◌≡◌, ◌∙◌}
use Prim.Native.Nat.{◌/◌, ◌^◌}
use mir.Facts.{to_z-of_z}
use lib.IntN.{nat_abs}
use Rattle.bitplane.specs.Bits.{sign}
use Rattle.writer.proofs.Codes.{minus, gives_is, width_is}
use Rattle.writer.proofs.gives.Goals as goal

pub returns : goal.returns
returns c = let size : c.down-h.result ≡ nat_abs c.args.z / 2 ^ c.args.t = let f = c.ranges.z in simp to_z-of_z at c.down-h.ensures in
    let signed : c.one-2.result ≡ sign c.args.z = let f = c.ranges.z in (simp to_z-of_z at c.one-2.ensures) ∙ minus c.args.z in
    record { value = gives_is c.args.t c.args.z _ _ _ size c.one.ensures c.requires.1 _ signed; many = width_is c.args.t c.args.z _ _ _ size c.one.ensures c.requires.1 }
