-- The entries that transform a picture and undo a plane: what they leave in the lent buffer, and their refusals (docs/FORMAT.md, "Levels" and "Calls").
--
--   samples_of W l                == the picture of the samples in a buffer of rows of W
--   coefficients_of W l           == the plane of the coefficients in a buffer of rows of W
--   coefficient k J W H l i       == the coefficient at place i of the plane of a picture
--   undone_number k J W H l i     == the undone number at place i
--   transform_tests k J D W H l n == the refusals of transforming, in order: 1, 2, 3, 4, 5, 6
--   undo_tests k J W H l n        == the refusals of undoing: 1, 2, 4, 5, 10
--
-- Assumes nothing: these are definitions.
use Rattle.std.specs.Prelude.{List, [], ◌∷◌, ℕ, ◌/◌, ◌%◌, ℤ, pos, length}
use Rattle.kernel.specs.Kernels.{the_kernel}
use Rattle.grid.specs.Picture.{Picture, picture}
use Rattle.plane.specs.Plane.{transformed, undone}
use Rattle.refusal.specs.Numbers.{Test, test}
use Rattle.refusal.specs.Tests.{bad_kernel, bad_levels, bad_depth, bad_size, bad_length, bad_sample, bad_magnitude}

abbrev pub samples_of : ℕ → List ℕ → Picture ℤ
samples_of W l y x = pos (picture 0 W l y x)

abbrev pub coefficients_of : ℕ → List ℤ → Picture ℤ
coefficients_of W l = picture (pos 0) W l

abbrev pub coefficient : ℕ → ℕ → ℕ → ℕ → List ℕ → ℕ → ℤ
coefficient k J W H samples i = transformed (the_kernel k) J W H (samples_of W samples) (i / W) (i % W)

abbrev pub undone_number : ℕ → ℕ → ℕ → ℕ → List ℤ → ℕ → ℤ
undone_number k J W H plane i = undone (the_kernel k) J W H (coefficients_of W plane) (i / W) (i % W)

-- n is the length of the plane's buffer
abbrev pub transform_tests : ℕ → ℕ → ℕ → ℕ → ℕ → List ℕ → ℕ → List Test
transform_tests k J D W H samples n =
    test (bad_kernel k) 1 ∷ test (bad_levels J) 2 ∷ test (bad_depth D) 3 ∷ test (bad_size W H) 4 ∷ test (bad_length W H (length samples)) 5 ∷ test (bad_length W H n) 5
    ∷ test (bad_sample D samples) 6 ∷ []

-- n is the length of the undone numbers' buffer
abbrev pub undo_tests : ℕ → ℕ → ℕ → ℕ → List ℤ → ℕ → List Test
undo_tests k J W H plane n =
    test (bad_kernel k) 1 ∷ test (bad_levels J) 2 ∷ test (bad_size W H) 4 ∷ test (bad_length W H (length plane)) 5 ∷ test (bad_length W H n) 5 ∷ test (bad_magnitude plane) 10 ∷ []
