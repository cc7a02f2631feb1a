-- `shot::draw_mask` fills a mask from rectangle numbers. Assumes nothing.
use Rattle.shot.proofs.Masks.{drawable_framed, mask_bytes_lem}
use Rattle.shot.proofs.draw_mask.Goals as goal

pub draw_placed-requires : goal.draw_placed-requires
draw_placed-requires c = drawable_framed c.args.levels _ _ _ c.args.mask.now c.requires

pub returns : goal.returns
returns c = mask_bytes_lem _ _ _ _ c.args.mask.now c.requires _ c.draw_placed.ensures _ _ c.mask_levels.ensures
