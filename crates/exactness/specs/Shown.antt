-- What a stream shows: it is read, undone and brought into range, each with what its header says (docs/FORMAT.md, "What arrives exactly" and "Calls").
--
--   undone_at l i             == the undone number at place i
--   shown_at l i              == the shown sample at place i
--   in_region_at s i          == place i of the picture is in the region of the shot s
--   plane_for k J W H samples == the plane of a picture, row by row
--   shown_of l                == the shown samples, row by row
--   brightness_of l region    == the result numbers of the brightness of a region of them
--   RegionInside s region     == each sample of the region is in the region of the shot s
--
--   The same at level r, on the area that r levels leave:
--   level_area r s            == how many places the area of the shot s has
--   level_number_at r l i     == the number at place i of the stream's picture at level r
--   level_sample_at r l i     == that, brought into range
--   own_number k r W H l i    == the number at place i of the area in the own transform, with r levels, of the picture of samples l
--   in_level_mask k r W H B i == place i of the area is marked by level r's mask of the region B
--   in_level_at r s i         == the same of the region of the shot s
--   front_tests l             == the refusals of a stream in front of 17, in order: 12, 13, 1, 2
--   area_tests l r n m u s    == those of its buffers and its filling: 5, 16
--   stream_tests l r n m u s  == the refusals of showing the stream l at level r, in order: 12, 13, 1, 2, 17, 3, 4, 7, 8, 14, 5, 16;
--                                n, m, u and s are the lengths of the buffers for plane, mask, undone numbers and shown samples
--
-- Assumes nothing: these are definitions.
use Rattle.std.specs.Prelude.{◌≡◌, Bool, true, List, [], ◌∷◌, ◌++◌, ℕ, ◌/◌, ◌%◌, ◌*◌, ◌<◌, ℤ, get_or}
use Rattle.kernel.specs.Kernels.{the_kernel}
use Rattle.line.specs.Cells.{listed}
use Rattle.grid.specs.Picture.{Picture, side}
use Rattle.plane.specs.Plane.{transformed, level_mask}
use Rattle.refusal.specs.Numbers.{Test, test}
use Rattle.refusal.specs.Tests.{bad_kernel, bad_levels, bad_level, bad_depth, bad_size}
use Rattle.wavelet.specs.Wavelet.{samples_of, undone_number, coefficient}
use Rattle.region.specs.Region.{in_region}
use Rattle.brightness.specs.Brightness.{Numbers, brightness_numbers}
use Rattle.samples.specs.Samples.{in_range}
use Rattle.level_picture.specs.Level.{level_number, bad_area}
use Rattle.header.specs.Header.{body_tests}
use Rattle.header.specs.Fields.{Shot, shot_of}
use Rattle.shot.specs.Shots.{drawn}
use Rattle.codestream.specs.Stream.{area}
use Rattle.codestream.specs.Reading.{plane_of, shot_tests, buffer_tests}

abbrev pub undone_at : List ℕ → ℕ → ℤ
undone_at l i = let s = shot_of l in undone_number s.kernel s.levels s.width s.height (plane_of l) i

abbrev pub shown_at : List ℕ → ℕ → ℕ
shown_at l i = in_range (shot_of l).depth (undone_at l i)

abbrev pub in_region_at : Shot → ℕ → Bool
in_region_at s i = in_region s.rectangles (i % s.width) (i / s.width)

abbrev pub plane_for : ℕ → ℕ → ℕ → ℕ → List ℕ → List ℤ
plane_for k J W H samples = listed (W * H) (coefficient k J W H samples)

abbrev pub shown_of : List ℕ → List ℕ
shown_of l = listed (area (shot_of l)) (shown_at l)

abbrev pub brightness_of : List ℕ → List ℕ → Numbers
brightness_of l region = brightness_numbers (shot_of l).width (shot_of l).height (shown_of l) region

abbrev pub RegionInside : Shot → List ℕ → Type 0
RegionInside s region = (i : ℕ) → i < area s → get_or region i 0 ≡ 1 → in_region_at s i ≡ true

abbrev pub level_area : ℕ → Shot → ℕ
level_area r s = side r s.width * side r s.height

abbrev pub level_number_at : ℕ → List ℕ → ℕ → ℤ
level_number_at r l i = let s = shot_of l in level_number s.kernel s.levels r s.width s.height (plane_of l) i

abbrev pub level_sample_at : ℕ → List ℕ → ℕ → ℕ
level_sample_at r l i = in_range (shot_of l).depth (level_number_at r l i)

abbrev pub own_number : ℕ → ℕ → ℕ → ℕ → List ℕ → ℕ → ℤ
own_number k r W H samples i = transformed (the_kernel k) r W H (samples_of W samples) (i / side r W) (i % side r W)

abbrev pub in_level_mask : ℕ → ℕ → ℕ → ℕ → Picture Bool → ℕ → Bool
in_level_mask k r W H B i = level_mask (the_kernel k) r W H B (i / side r W) (i % side r W)

abbrev pub in_level_at : ℕ → Shot → ℕ → Bool
in_level_at r s i = in_level_mask s.kernel r s.width s.height (drawn s.rectangles) i

abbrev pub front_tests : List ℕ → List Test
front_tests l = let s = shot_of l in body_tests l ++ (test (bad_kernel s.kernel) 1 ∷ test (bad_levels s.levels) 2 ∷ [])

abbrev pub area_tests : List ℕ → ℕ → ℕ → ℕ → ℕ → ℕ → List Test
area_tests l r n m u s = let t = shot_of l in test (bad_area r t.width t.height u s) 5 ∷ buffer_tests l n m

abbrev pub stream_tests : List ℕ → ℕ → ℕ → ℕ → ℕ → ℕ → List Test
stream_tests l r n m u s =
    let t = shot_of l in
    front_tests l ++ (test (bad_level r t.levels) 17 ∷ test (bad_depth t.depth) 3 ∷ test (bad_size t.width t.height) 4 ∷ (shot_tests t ++ area_tests l r n m u s))
