-- One level by the earlier passes: what is left in the lent buffer, and the refusals.
--
--   coefficient k W H l i      == the coefficient at place i of the plane of a picture after one level
--   undone_number k W H l i    == the number at place i after one level is undone
--   bad_sides W H              == 4: W or H not 1 to 4,096, or odd
--   transform_tests k W H l n  == the refusals of transforming, in order: 1, 4, 5, 6
--   undo_tests k W H l n       == the refusals of undoing: 1, 4, 5, 10
--
-- Assumes nothing: these are definitions.
use Rattle.std.specs.Prelude.{Bool, not, ◌||◌, List, [], ◌∷◌, ℕ, ◌/◌, ◌%◌, eqb, ℤ, pos, length}
use Rattle.kernel.specs.Kernels.{the_kernel}
use Rattle.grid.specs.Picture.{picture}
use Rattle.plane.specs.Plane.{transformed, undone}
use Rattle.refusal.specs.Numbers.{Test, test}
use Rattle.refusal.specs.Tests.{bad_kernel, bad_size, bad_length, bad_sample, bad_magnitude}
use Rattle.earlier_passes.specs.Level.{samples_of}

abbrev pub coefficient : ℕ → ℕ → ℕ → List ℕ → ℕ → ℤ
coefficient k W H samples i = transformed (the_kernel k) 1 W H (samples_of W samples) (i / W) (i % W)

abbrev pub undone_number : ℕ → ℕ → ℕ → List ℤ → ℕ → ℤ
undone_number k W H plane i = undone (the_kernel k) 1 W H (picture (pos 0) W plane) (i / W) (i % W)

abbrev pub bad_sides : ℕ → ℕ → Bool
bad_sides W H = bad_size W H || not (eqb (W % 2) 0) || not (eqb (H % 2) 0)

-- n is the length of the plane's buffer
abbrev pub transform_tests : ℕ → ℕ → ℕ → List ℕ → ℕ → List Test
transform_tests k W H samples n =
    test (bad_kernel k) 1 ∷ test (bad_sides W H) 4 ∷ test (bad_length W H (length samples)) 5 ∷ test (bad_length W H n) 5 ∷ test (bad_sample 10 samples) 6 ∷ []

-- n is the length of the undone numbers' buffer
abbrev pub undo_tests : ℕ → ℕ → ℕ → List ℤ → ℕ → List Test
undo_tests k W H plane n =
    test (bad_kernel k) 1 ∷ test (bad_sides W H) 4 ∷ test (bad_length W H (length plane)) 5 ∷ test (bad_length W H n) 5 ∷ test (bad_magnitude plane) 10 ∷ []
