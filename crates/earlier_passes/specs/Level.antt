-- One level, and the buffers that it is lent.
--
--   samples_of W l   == the picture of the samples in a buffer of rows of W
--   OneLevel w h m n == even sizes within the limits, and two buffers that are w · h long
--
-- Assumes nothing: these are definitions.
use Rattle.std.specs.Prelude.{◌≡◌, List, ℕ, ◌*◌, ◌%◌, ◌<◌, ◌≤◌, ℤ, pos}
use Rattle.grid.specs.Picture.{Picture, picture}

abbrev pub samples_of : ℕ → List ℕ → Picture ℤ
samples_of W l y x = pos (picture 0 W l y x)

pub record OneLevel (w h m n : ℕ) : Type 0 where
  pub some_w : 0 < w
  pub some_h : 0 < h
  pub even_w : w % 2 ≡ 0
  pub even_h : h % 2 ≡ 0
  pub w_most : w ≤ 4096
  pub h_most : h ≤ 4096
  pub from : m ≡ w * h
  pub to : n ≡ w * h
