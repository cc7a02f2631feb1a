-- The parts of showing at a level: what only inner contracts and proofs cite.
--
--   level_at k J r W H l i == `level_number` for the kernel itself in place of its number
--   Lent J r D W H m n s   == a level and sizes within the limits, a plane of W · H and two buffers as long as the area
--
-- Assumes nothing: these are definitions.
use Rattle.std.specs.Prelude.{◌≡◌, List, ℕ, ◌*◌, ◌/◌, ◌%◌, ◌<◌, ◌≤◌, ℤ}
use Rattle.kernel.specs.declared.Kernel.{Kernel}
use Rattle.grid.specs.Picture.{side}
use Rattle.plane.specs.Plane.{level_picture}
use Rattle.wavelet.specs.Wavelet.{coefficients_of}

abbrev pub level_at : Kernel → ℕ → ℕ → ℕ → ℕ → List ℤ → ℕ → ℤ
level_at k J r W H plane i = level_picture k J r W H (coefficients_of W plane) (i / side r W) (i % side r W)

pub record Lent (J r D W H m n s : ℕ) : Type 0 where
  pub few : J ≤ 5
  pub level : r ≤ J
  pub depth : D ≤ 10
  pub some_w : 0 < W
  pub some_h : 0 < H
  pub w_most : W ≤ 4096
  pub h_most : H ≤ 4096
  pub plane : m ≡ W * H
  pub undone : n ≡ side r W * side r H
  pub shown : s ≡ side r W * side r H
