-- `wavelet::undo_area` undoes an area of an accepted plane. Assumes nothing.
use Rattle.wavelet.proofs.Entries.{area_undone}
use Rattle.wavelet.proofs.undo_area.Goals as goal

pub returns : goal.returns
returns c = let a = c.args in let z = c.requires.levels in area_undone a.kernel a.levels a.width a.w a.h a.plane.now a.undone.now _ z.some_w c.requires.undone_len c.undo_levels.ensures
