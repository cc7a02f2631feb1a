-- What reading a header answers (docs/FORMAT.md, "Reading" and "Calls").
--
--   header_for s == the header of the shot s, with its rectangles' numbers in an array
--   headed_for s == that header with the kernel of its number
--
-- Assumes nothing: these are definitions.
use Rattle.std.specs.Prelude.{◌/◌, length, get_or}
use Rattle.kernel.specs.Kernels.{the_kernel}
use Rattle.line.specs.Cells.{listed}
use Rattle.header.specs.Fields.{Shot}
use Rattle.header_reader.specs.declared.Header.{Header}
use Rattle.header_reader.specs.declared.Headed.{Headed}

abbrev pub header_for : Shot → Header
header_for s = record {
  kernel = s.kernel;
  levels = s.levels;
  depth = s.depth;
  width = s.width;
  height = s.height;
  planes = s.planes;
  count = length s.rectangles / 4;
  rectangles = listed 128 (λ i. get_or s.rectangles i 0);
}

abbrev pub headed_for : Shot → Headed
headed_for s = record { kernel = the_kernel s.kernel; header = header_for s }
