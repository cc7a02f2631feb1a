-- `level_picture::bad_area` tests the two lent buffers. Assumes nothing.
use Rattle.level_picture.proofs.Areas.{area_fits}
use Rattle.level_picture.proofs.bad_area.Goals as goal

pub overflow_mul-count : goal.overflow_mul-count
overflow_mul-count c = rw (c.level_side.ensures, c.level_side-2.ensures) (area_fits _ c.args.w c.args.h c.requires.1 c.requires.2)
