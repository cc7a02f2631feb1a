-- The mask of a region, in bytes (docs/FORMAT.md, "Region and mask" and "Calls").
--
--   region_of W l          == the region that a buffer of rows of W bytes holds
--   mask_at k J W H l i    == the mask's byte at place i of rows of W, of the region that l holds
--   mask_byte n J W H l i  == that, for the kernel of number n
--   mask_tests k J W H l n == the refusals of the call, in order: 1, 2, 4, 5, 9
--
-- Assumes nothing: these are definitions.
use Rattle.std.specs.Prelude.{Bool, List, [], ◌∷◌, ℕ, ◌/◌, ◌%◌, length}
use Rattle.kernel.specs.declared.Kernel.{Kernel}
use Rattle.kernel.specs.Kernels.{the_kernel}
use Rattle.line.specs.Mask.{marked, byte_of}
use Rattle.grid.specs.Picture.{Picture, picture}
use Rattle.plane.specs.Plane.{mask_of}
use Rattle.refusal.specs.Numbers.{Test, test}
use Rattle.refusal.specs.Tests.{bad_kernel, bad_levels, bad_size, bad_length, bad_mark}

abbrev pub region_of : ℕ → List ℕ → Picture Bool
region_of W l y x = marked (picture 0 W l y x)

abbrev pub mask_at : Kernel → ℕ → ℕ → ℕ → List ℕ → ℕ → ℕ
mask_at k J W H region i = byte_of (mask_of k J W H (region_of W region) (i / W) (i % W))

abbrev pub mask_byte : ℕ → ℕ → ℕ → ℕ → List ℕ → ℕ → ℕ
mask_byte n = mask_at (the_kernel n)

-- n is the length of the mask buffer
abbrev pub mask_tests : ℕ → ℕ → ℕ → ℕ → List ℕ → ℕ → List Test
mask_tests k J W H region n =
    test (bad_kernel k) 1 ∷ test (bad_levels J) 2 ∷ test (bad_size W H) 4 ∷ test (bad_length W H (length region)) 5 ∷ test (bad_length W H n) 5
    ∷ test (bad_mark region) 9 ∷ []
