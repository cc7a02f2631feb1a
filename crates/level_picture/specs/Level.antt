-- The entry that shows the picture at a level of a plane: what it leaves in the lent buffers, and its refusals (docs/FORMAT.md, "Levels", "Showing" and "Calls").
--
--   level_number k J r W H l i    == the number at place i of the picture at level r of the plane l, row by row
--   level_sample k J r D W H l i  == that number, brought into range
--   bad_area r W H n s            == 5: a buffer for them, of length n or s, is not as long as the area at level r
--   level_tests k J r D W H l n s == the refusals of showing it, in order: 1, 2, 17, 3, 4, 5, 10
--
-- Assumes nothing: these are definitions.
use Rattle.std.specs.Prelude.{Bool, ◌||◌, List, [], ◌∷◌, ℕ, ◌/◌, ◌%◌, ℤ, length}
use Rattle.kernel.specs.Kernels.{the_kernel}
use Rattle.grid.specs.Picture.{side}
use Rattle.plane.specs.Plane.{level_picture}
use Rattle.refusal.specs.Numbers.{Test, test}
use Rattle.refusal.specs.Tests.{bad_kernel, bad_levels, bad_level, bad_depth, bad_size, bad_length, bad_magnitude}
use Rattle.wavelet.specs.Wavelet.{coefficients_of}
use Rattle.samples.specs.Samples.{in_range}

abbrev pub level_number : ℕ → ℕ → ℕ → ℕ → ℕ → List ℤ → ℕ → ℤ
level_number k J r W H plane i = level_picture (the_kernel k) J r W H (coefficients_of W plane) (i / side r W) (i % side r W)

abbrev pub level_sample : ℕ → ℕ → ℕ → ℕ → ℕ → ℕ → List ℤ → ℕ → ℕ
level_sample k J r D W H plane i = in_range D (level_number k J r W H plane i)

abbrev pub bad_area : ℕ → ℕ → ℕ → ℕ → ℕ → Bool
bad_area r W H n s = bad_length (side r W) (side r H) n || bad_length (side r W) (side r H) s

abbrev pub level_tests : ℕ → ℕ → ℕ → ℕ → ℕ → ℕ → List ℤ → ℕ → ℕ → List Test
level_tests k J r D W H plane n s =
    test (bad_kernel k) 1 ∷ test (bad_levels J) 2 ∷ test (bad_level r J) 17 ∷ test (bad_depth D) 3 ∷ test (bad_size W H) 4 ∷ test (bad_length W H (length plane)) 5
    ∷ test (bad_area r W H n s) 5 ∷ test (bad_magnitude plane) 10 ∷ []
