-- Two planes of a shot that agree on its mask have, at each level, the same numbers wherever that level's mask marks.
--
--   number_of r s p i == the number at place i of the picture at level r of the plane p of the shot s
--
-- Assumes nothing.
use mathlib.Core.Path.{◌≡◌, sym, ◌∙◌}
use mathlib.Core.Bool.{Bool, true}
use mathlib.Core.List.{List}
use Prim.Native.Nat.{ℕ, ◌+◌, ◌*◌, ◌/◌, ◌%◌, ◌<◌, ◌≤◌}
use lib.Arith.{digits_div, digits_mod}
use lib.IntN.{ℤ, pos}
use lib.ListN.{get_or}
use Rattle.kernel.specs.declared.Kernel.{Kernel}
use Rattle.kernel.specs.Kernels.{the_kernel}
use Rattle.line.specs.Mask.{byte_of}
use Rattle.line.proofs.Lists.{listed_cell}
use Rattle.grid.specs.Picture.{Picture, AgreeOn}
use Rattle.grid.proofs.Passes.{cell}
use Rattle.plane.specs.Plane.{mask_of}
use Rattle.wavelet.specs.Wavelet.{coefficients_of}
use Rattle.level_picture.specs.Level.{level_number}
use Rattle.header.specs.Fields.{Shot}
use Rattle.shot.specs.Shots.{drawn, mask_bytes, shot_mask}
use Rattle.codestream.specs.Stream.{area}
use Rattle.codestream.proofs.Accepted.{Setting}
use Rattle.exactness.specs.Shown.{level_area, in_level_at}
use Rattle.exactness.proofs.Levels.{place_in, numbers_agree}

abbrev pub number_of : ℕ → Shot → List ℤ → ℕ → ℤ
number_of r s p i = level_number s.kernel s.levels r s.width s.height p i

module _ (s : Shot) (set : Setting s.kernel s.levels s.depth s.width s.height) where
  abbrev k : Kernel
  k = the_kernel s.kernel

  abbrev W : ℕ
  W = s.width

  abbrev H : ℕ
  H = s.height

  abbrev B : Picture Bool
  B = drawn s.rectangles

  mask_cell : (y x : ℕ) → y < H → x < W → mask_of k s.levels W H B y x ≡ true → get_or (shot_mask s) (y * W + x) 2 ≡ 1
  unfolding mask_bytes
  mask_cell y x p q t =
      listed_cell {A = ℕ} (W * H) (λ i. byte_of (mask_of k s.levels W H B (i / W) (i % W))) 2 (y * W + x) (place_in W H y x p q)
      ∙ (rw (digits_div y q, digits_mod y q, t))

  module _ (p p' : List ℤ) (same : (i : ℕ) → i < area s → get_or (shot_mask s) i 2 ≡ 1 → get_or p i (pos 0) ≡ get_or p' i (pos 0)) where
    agree : AgreeOn W H (mask_of k s.levels W H B) (coefficients_of W p) (coefficients_of W p')
    agree y x a b t = cell (pos 0) W p y x b ∙ same (y * W + x) (place_in W H y x a b) (mask_cell y x a b t) ∙ sym (cell (pos 0) W p' y x b)

    pub level_same : (r : ℕ) → r ≤ s.levels → (i : ℕ) → i < level_area r s → in_level_at r s i ≡ true → number_of r s p i ≡ number_of r s p' i
    level_same r few i h t = numbers_agree s.kernel s.levels r W H B p p' set.sides.width.0 few agree i h t
