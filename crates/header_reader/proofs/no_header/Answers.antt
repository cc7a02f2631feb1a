-- `header_reader::no_header` gives a header of zeros. Assumes nothing.
use mathlib.Core.Path.{refl}
use Rattle.header_reader.proofs.Arrays.{no_numbers}
use Rattle.header_reader.proofs.no_header.Goals as goal

pub returns : goal.returns
returns c = rw no_numbers refl
