-- `level_picture::show_area` undoes the area and brings it into range. Assumes nothing.
use native.Mathlib.Omega.{arith}
use Rattle.level_picture.proofs.Areas.{lent_levels}
use Rattle.level_picture.proofs.show_area.Goals as goal

pub undo_area-requires : goal.undo_area-requires
undo_area-requires c = let z = c.requires.lent in rw (c.level_side-area_w.ensures, c.level_side-area_h.ensures)
    (record { levels = lent_levels z (omega (arith, z.few)); undone_len = z.undone; below = c.requires.below })
