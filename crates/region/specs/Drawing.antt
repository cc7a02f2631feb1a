-- Drawing rectangles in a region of rows of W bytes.
--
--   within at n i                == place i is one of n places from `at` on
--   Filled b at n l l'           == l' is l with the byte b in n places from `at` on
--   Drawn x y w h W l l'         == l' is l with the byte 1 inside the rectangle
--   Inside l W n                 == each rectangle of the numbers l is inside rows of W, and inside n places
--   placed_byte l W H i          == the byte at place i of the region of the numbers l, placed
--   DrawnPlaced x y w h W H l l' == l' is l with the byte 1 inside the rectangle, placed
--   Framed l W H n               == each rectangle of the numbers l is inside W by H, and n places hold as many
--
-- Assumes nothing: these are definitions.
use Rattle.std.specs.Prelude.{◌≡◌, Bool, ◌&&◌, List, ℕ, ◌+◌, ◌*◌, ◌/◌, ◌%◌, ◌<◌, ◌≤◌, leb, ltb, length, get_or}
use Rattle.line.specs.Cells.{choose}
use Rattle.line.specs.Mask.{byte_of}
use Rattle.grid.specs.Placed.{placed}
use Rattle.region.specs.Region.{in_box, in_region}

abbrev pub within : ℕ → ℕ → ℕ → Bool
within at n i = leb at i && ltb i (at + n)

pub record Filled (b at n : ℕ) (l l' : List ℕ) : Type 0 where
  pub size : length l' ≡ length l
  pub cell : (i : ℕ) → get_or l' i 0 ≡ choose (within at n i) b (get_or l i 0)

pub record Drawn (x y w h W : ℕ) (l l' : List ℕ) : Type 0 where
  pub size : length l' ≡ length l
  pub cell : (i : ℕ) → get_or l' i 0 ≡ choose (in_box x y w h (i % W) (i / W)) 1 (get_or l i 0)

pub record Inside (l : List ℕ) (W n : ℕ) : Type 0 where
  pub right : (r : ℕ) → r < length l / 4 → get_or l (4 * r) 0 + get_or l (4 * r + 2) 0 ≤ W
  pub bottom : (r : ℕ) → r < length l / 4 → (get_or l (4 * r + 1) 0 + get_or l (4 * r + 3) 0) * W ≤ n

abbrev pub placed_byte : List ℕ → ℕ → ℕ → ℕ → ℕ
placed_byte l W H i = byte_of (placed W H (λ r c. in_region l c r) (i / W) (i % W))

pub record DrawnPlaced (x y w h W H : ℕ) (l l' : List ℕ) : Type 0 where
  pub size : length l' ≡ length l
  pub cell : (i : ℕ) → i < H * W → get_or l' i 0 ≡ choose (placed W H (λ r c. in_box x y w h c r) (i / W) (i % W)) 1 (get_or l i 0)

pub record Framed (l : List ℕ) (W H n : ℕ) : Type 0 where
  pub right : (r : ℕ) → r < length l / 4 → get_or l (4 * r) 0 + get_or l (4 * r + 2) 0 ≤ W
  pub bottom : (r : ℕ) → r < length l / 4 → get_or l (4 * r + 1) 0 + get_or l (4 * r + 3) 0 ≤ H
  pub full : n ≡ H * W
