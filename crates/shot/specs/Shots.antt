-- A shot: its setting, its rectangles and the mask that they make (docs/FORMAT.md, "Region and mask" and "Refusals").
--
--   drawn l                 == the region of the rectangle numbers l, a mark a sample
--   mask_bytes k J W H l    == the mask of that region, a byte a coefficient, row by row
--   shot_mask s             == the mask of a shot
--   marks s                 == the number of its marks
--   setting_tests k J D W H == the refusals of a setting, in order: 1, 2, 3, 4
--   rectangle_tests W H l   == the refusals of rectangles: 7, 8
--
-- Assumes nothing: these are definitions.
use Rattle.std.specs.Prelude.{Bool, List, [], ◌∷◌, ℕ, ◌*◌, ◌/◌, ◌%◌}
use Rattle.kernel.specs.declared.Kernel.{Kernel}
use Rattle.kernel.specs.Kernels.{the_kernel}
use Rattle.line.specs.Cells.{count, listed}
use Rattle.line.specs.Mask.{byte_of}
use Rattle.grid.specs.Picture.{Picture}
use Rattle.plane.specs.Plane.{mask_of}
use Rattle.bitplane.specs.Body.{class}
use Rattle.refusal.specs.Numbers.{Test, test}
use Rattle.refusal.specs.Tests.{bad_kernel, bad_levels, bad_depth, bad_size, bad_numbers, bad_rectangles}
use Rattle.region.specs.Region.{in_region}
use Rattle.header.specs.Fields.{Shot}

abbrev pub drawn : List ℕ → Picture Bool
drawn l y x = in_region l x y

unfoldable pub mask_bytes : Kernel → ℕ → ℕ → ℕ → List ℕ → List ℕ
mask_bytes k J W H l = listed (W * H) (λ i. byte_of (mask_of k J W H (drawn l) (i / W) (i % W)))

abbrev pub shot_mask : Shot → List ℕ
shot_mask s = mask_bytes (the_kernel s.kernel) s.levels s.width s.height s.rectangles

abbrev pub marks : Shot → ℕ
marks s = count (s.width * s.height) (class (shot_mask s) 1)

abbrev pub setting_tests : ℕ → ℕ → ℕ → ℕ → ℕ → List Test
setting_tests k J D W H = test (bad_kernel k) 1 ∷ test (bad_levels J) 2 ∷ test (bad_depth D) 3 ∷ test (bad_size W H) 4 ∷ []

abbrev pub rectangle_tests : ℕ → ℕ → List ℕ → List Test
rectangle_tests W H l = test (bad_numbers l) 7 ∷ test (bad_rectangles W H l) 8 ∷ []
