-- The codestream of a plane (docs/FORMAT.md, "Body" and "Lengths").
--
--   area s            == W · H
--   front s           == the length before the body, 14 + 8k
--   marked_passes s   == the marked coefficients' planes, T − 1 down to 0
--   unmarked_passes s == those of the unmarked
--   marked_part s l   == the bits of the marked part of the body, of the plane l
--   body_bits s l     == the bits of the body
--   packed l          == the bits l as bytes, the last one filled with zeros
--   total_length s l  == the stream's length
--   region_mark s l   == the length up to the byte that ends the marked part, or up to the body if that part has no bit
--   stream s l        == the stream
--
-- Assumes nothing: these are definitions.
use Rattle.std.specs.Prelude.{List, ◌++◌, ℕ, ◌+◌, ◌*◌, ℤ, length}
use Rattle.line.specs.Cells.{cell, listed}
use Rattle.bitplane.specs.Bits.{byte_at, bytes}
use Rattle.bitplane.specs.Body.{Order, class, planes, body}
use Rattle.header.specs.Fields.{Shot, header}
use Rattle.shot.specs.Shots.{shot_mask}

abbrev pub area : Shot → ℕ
area s = s.width * s.height

abbrev pub front : Shot → ℕ
front s = 14 + 2 * length s.rectangles

abbrev pub marked_passes : Shot → Order
marked_passes s = planes (class (shot_mask s) 1) s.planes

abbrev pub unmarked_passes : Shot → Order
unmarked_passes s = planes (class (shot_mask s) 0) s.planes

abbrev pub marked_part : Shot → List ℤ → List ℕ
marked_part s l = body (marked_passes s) (cell l) (area s)

abbrev pub body_bits : Shot → List ℤ → List ℕ
body_bits s l = marked_part s l ++ body (unmarked_passes s) (cell l) (area s)

abbrev pub packed : List ℕ → List ℕ
packed l = listed (bytes (length l)) (byte_at l)

abbrev pub total_length : Shot → List ℤ → ℕ
total_length s l = front s + bytes (length (body_bits s l))

abbrev pub region_mark : Shot → List ℤ → ℕ
region_mark s l = front s + bytes (length (marked_part s l))

abbrev pub stream : Shot → List ℤ → List ℕ
stream s l = header s (total_length s l) ++ packed (body_bits s l)
