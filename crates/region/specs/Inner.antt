-- What only inner contracts cite.
--
--   rectangle_of l == the rectangle of the four numbers l
--
-- Assumes nothing: this is a definition.
use Rattle.std.specs.Prelude.{List, ℕ, get_or}
use Rattle.region.specs.declared.Rectangle.{Rectangle}

abbrev pub rectangle_of : List ℕ → Rectangle
rectangle_of l = record { x = get_or l 0 0; y = get_or l 1 0; across = get_or l 2 0; down = get_or l 3 0 }
