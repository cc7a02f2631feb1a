-- Every worked example of the table holds of the definitions. Assumes nothing.
use mathlib.Core.Path.{◌≡◌, refl}
use mathlib.Core.List.{map}
use Rattle.whole.specs.Floor.{floor_div}
use Rattle.line.specs.Cells.{joined}
use Rattle.line.specs.Transform.{inside, means, predict, update, high, low, forward}
use Rattle.line.specs.Mask.{any_below, mark, low_mark, high_mark, mask_line}
use Rattle.grid.specs.Picture.{on_line, row_pass, walk, picture}
use Rattle.worked.specs.Examples.{examples, made, stated}

pub worked : map made examples ≡ map stated examples
unfolding examples made stated floor_div joined inside means predict update high low forward any_below mark low_mark high_mark mask_line on_line row_pass walk picture
worked = refl
