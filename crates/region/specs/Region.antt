-- The region that rectangles draw (docs/FORMAT.md, "Region and mask" and "Calls").
--
--   in_box x y w h c r   == column c and row r are inside the rectangle x, y, width w, height h
--   in_rectangle l r x y == column x and row y are inside rectangle r of the numbers l, four a rectangle: x, y, width, height
--   in_region l x y      == they are inside any rectangle
--   region_byte l W i    == the region's byte at place i of rows of W
--   region_tests l W H n == the refusals of the call, in order: 4, 7, 8, 5
--
-- Assumes nothing: these are definitions.
use Rattle.std.specs.Prelude.{Bool, ◌&&◌, List, [], ◌∷◌, ℕ, ◌+◌, ◌*◌, ◌/◌, ◌%◌, leb, ltb, length, get_or}
use Rattle.line.specs.Mask.{any_below, byte_of}
use Rattle.refusal.specs.Numbers.{Test, test}
use Rattle.refusal.specs.Tests.{bad_size, bad_length, bad_numbers, bad_rectangles}

abbrev pub in_box : ℕ → ℕ → ℕ → ℕ → ℕ → ℕ → Bool
in_box x y w h c r = leb x c && ltb c (x + w) && leb y r && ltb r (y + h)

abbrev pub in_rectangle : List ℕ → ℕ → ℕ → ℕ → Bool
in_rectangle l r x y = in_box (get_or l (4 * r) 0) (get_or l (4 * r + 1) 0) (get_or l (4 * r + 2) 0) (get_or l (4 * r + 3) 0) x y

unfoldable pub in_region : List ℕ → ℕ → ℕ → Bool
in_region l x y = any_below (length l / 4) (λ r. in_rectangle l r x y)

abbrev pub region_byte : List ℕ → ℕ → ℕ → ℕ
region_byte l W i = byte_of (in_region l (i % W) (i / W))

abbrev pub region_tests : List ℕ → ℕ → ℕ → ℕ → List Test
region_tests l W H n = test (bad_size W H) 4 ∷ test (bad_numbers l) 7 ∷ test (bad_rectangles W H l) 8 ∷ test (bad_length W H n) 5 ∷ []
