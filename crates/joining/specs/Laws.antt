-- What joining is to masks: a record with a field for each law (docs/FORMAT.md, "Region and mask").
--
--   filled W H f == the buffer of W · H cells that a call fills with what f says
--
--   Joining == for every kernel, level count and size:
--     masks      the mask of two regions joined is their masks joined, place by place
--     levels     so is level j's mask, for each j
--     order      joining is without order
--     grouping   and without grouping
--     itself     a region joined with itself is that region
--     nothing    so is a region joined with the empty one
--     unmarked   the empty region marks nothing
--     inside     a region inside another has its mask inside the other's
--     rectangles the region of two lists of rectangle numbers, one behind the other, is their regions joined
--   and so of what the calls fill:
--     contained  a region whose bytes are 1 only where another's are has a mask whose bytes are 1 only where the other's are
--     called     the mask of the region that `join` fills from two regions is what `join` fills from their masks
--     drawn      the region of both lists of rectangle numbers is what `join` fills from the regions of either
--     added      the mask of both lists, which the writer and the reader fill, is what `join` fills from the masks of either: with one rectangle behind
--                the others, the new mask from the old one and the rectangle's own
--
-- Assumes nothing: these are definitions. `proofs/Laws.antt` proves Joining.
use Rattle.std.specs.Prelude.{◌≡◌, Bool, ◌||◌, List, ◌++◌, ℕ, ◌*◌, ◌%◌, length, get_or}
use Rattle.kernel.specs.declared.Kernel.{Kernel}
use Rattle.line.specs.Cells.{Line, listed}
use Rattle.grid.specs.Picture.{Picture}
use Rattle.plane.specs.Plane.{mask_of, level_mask, join, empty, Inside}
use Rattle.region.specs.Region.{in_region, region_byte}
use Rattle.picture_mask.specs.Masks.{mask_byte}
use Rattle.shot.specs.Shots.{mask_bytes}
use Rattle.joining.specs.Join.{join_byte}

abbrev pub filled : ℕ → ℕ → Line ℕ → List ℕ
filled W H f = listed (W * H) f

pub record Joining : Type 0 where
  pub masks : (k : Kernel) (J W H : ℕ) (B C : Picture Bool) → mask_of k J W H (join B C) ≡ join (mask_of k J W H B) (mask_of k J W H C)
  pub levels : (k : Kernel) (j W H : ℕ) (B C : Picture Bool) → level_mask k j W H (join B C) ≡ join (level_mask k j W H B) (level_mask k j W H C)
  pub order : (B C : Picture Bool) → join B C ≡ join C B
  pub grouping : (B C D : Picture Bool) → join (join B C) D ≡ join B (join C D)
  pub itself : (B : Picture Bool) → join B B ≡ B
  pub nothing : (B : Picture Bool) → join B empty ≡ B
  pub unmarked : (k : Kernel) (J W H : ℕ) → mask_of k J W H empty ≡ empty
  pub inside : (k : Kernel) (J W H : ℕ) (B C : Picture Bool) → Inside B C → Inside (mask_of k J W H B) (mask_of k J W H C)
  pub rectangles : (l m : List ℕ) → length l % 4 ≡ 0 → (x y : ℕ) → in_region (l ++ m) x y ≡ (in_region l x y || in_region m x y)
  pub contained : (k J W H : ℕ) (a b : List ℕ) → ((i : ℕ) → get_or a i 0 ≡ 1 → get_or b i 0 ≡ 1) → (i : ℕ) → mask_byte k J W H a i ≡ 1 → mask_byte k J W H b i ≡ 1
  pub called : (k J W H : ℕ) (a b : List ℕ) → length a ≡ W * H → length b ≡ W * H
      → filled W H (mask_byte k J W H (filled W H (join_byte a b))) ≡ filled W H (join_byte (filled W H (mask_byte k J W H a)) (filled W H (mask_byte k J W H b)))
  pub drawn : (W H : ℕ) (l m : List ℕ) → length l % 4 ≡ 0
      → filled W H (region_byte (l ++ m) W) ≡ filled W H (join_byte (filled W H (region_byte l W)) (filled W H (region_byte m W)))
  pub added : (k : Kernel) (J W H : ℕ) (l m : List ℕ) → length l % 4 ≡ 0
      → mask_bytes k J W H (l ++ m) ≡ filled W H (join_byte (mask_bytes k J W H l) (mask_bytes k J W H m))
