-- The entry: what its passed tests tell the walk, and what the walk leaves in the mask. Assumes nothing.
use mathlib.Core.Path.{◌≡◌, sym, ap, ◌∙◌, fun_ext}
use mathlib.Core.Bool.{Bool, true, false}
use mathlib.Core.List.{List}
use Prim.Native.Nat.{ℕ, ◌-◌, ◌/◌, ◌%◌, ◌<◌}
use native.Mathlib.Nat.{mul_comm, mul-le-mul_right}
use native.Mathlib.Omega.{arith}
use lib.ListN.{length, get_or, get_or-eq_default}
use Rattle.kernel.specs.declared.Kernel.{Kernel}
use Rattle.kernel.specs.Kernels.{the_kernel}
use Rattle.line.specs.Mask.{byte_of}
use Rattle.line.proofs.Cells.{by_lt}
use Rattle.line.proofs.Marks.{byte_of-marked}
use Rattle.line.specs.Cells.{low_side}
use Rattle.grid.specs.Picture.{Picture, row_pass, col_pass, walk, picture}
use Rattle.grid.specs.Placed.{on_woven, placed}
use Rattle.grid.proofs.Passes.{cell_of}
use Rattle.grid.proofs.Levels.{walk_more}
use Rattle.grid.proofs.Parted.{level_on_placed}
use Rattle.plane.specs.Plane.{mask_of}
use Rattle.refusal.specs.Tests.{bad_mark}
use Rattle.refusal.specs.Results.{Result}
use Rattle.refusal.proofs.Passed.{Sides, sides, marks}
use Rattle.picture_mask.specs.Masks.{region_of, mask_byte}
use Rattle.picture_mask.specs.Areas.{Binary, Area, Whole, Region, bytes, mask_on, mask_line_bytes}
use Rattle.picture_mask.proofs.Local.{bytes_local}
use Rattle.picture_mask.proofs.Running.{picture_most, binary_of, placed_most}
use Rattle.picture_mask.proofs.Walks.{walk-bytes}

-- ---- the region
pub region_binary : (l : List ℕ) → bad_mark l ≡ false → Binary l
region_binary l e = record {
  each = λ i. by_lt i (length l) (marks l e i) (λ ge. let z : get_or l i 0 ≡ 0 = get_or-eq_default l 0 ge in omega arith);
}

module _ (J W H : ℕ) (l : List ℕ) (r : Region J W H l) where
  region_sides : Sides W H
  region_sides = sides W H r.size

  pub region_whole : Whole W H l
  region_whole = record {
    some_w = region_sides.width.0;
    some_h = region_sides.height.0;
    full = r.full ∙ mul_comm W H;
    marks = r.marks;
  }

  -- the low part after the first level
  pub low_area : (l' : List ℕ) → Whole W H l' → Area W (low_side W) (low_side H) l'
  low_area l' z = let some = z.some_h in record {
    some_w = omega (arith, z.some_w);
    some_h = omega arith;
    w_most = omega (arith, region_sides.width.1);
    h_most = omega (arith, region_sides.height.1);
    wide = omega (arith, z.some_w);
    fits = omega (arith, z.full, mul-le-mul_right {m = low_side H} {n = H} W (omega arith));
    marks = z.marks;
  }

  -- ---- the mask l₃, in the place of the region l: after its rows, its columns and the deeper levels
  pub mask_result : (k : Kernel) (l₁ l₂ l₃ : List ℕ) → let T = mask_line_bytes k in length l₃ ≡ length l
      → picture 0 W l₁ ≡ row_pass (on_woven T) W H (picture 0 W l) → picture 0 W l₂ ≡ col_pass (on_woven T) W H (picture 0 W l₁)
      → picture 0 W l₃ ≡ walk T (J - 1) (low_side W) (low_side H) (picture 0 W l₂)
      → (B : Picture Bool) → picture 0 W l ≡ placed W H (bytes B) → Result 0 true (mask_on k J W H B) l l₃
  mask_result k l₁ l₂ l₃ same p q s B e = let T = mask_line_bytes k in record {
    size = same;
    cell = λ i h.
        cell_of 0 W l₃ H i (omega (arith, r.full, mul_comm W H))
        ∙ ap (λ (P : Picture ℕ). P (i / W) (i % W))
        (s ∙ ap (walk T (J - 1) (low_side W) (low_side H))
        (q ∙ ap (col_pass (on_woven T) W H) (p ∙ ap (row_pass (on_woven T) W H) e) ∙ level_on_placed W H (bytes B) T (bytes_local k))
        ∙ sym (walk_more T J W H (bytes B) r.levels) ∙ walk-bytes k J W H B);
  }

-- ---- the call: a region l, placed in the mask's buffer as c; what is placed are its marks
pub placed_marks : (W H : ℕ) (l c : List ℕ) → 0 < W → Binary l → picture 0 W c ≡ placed W H (picture 0 W l) → Binary c
placed_marks W H l c some b e = binary_of W c (placed W H (picture 0 W l)) some e (placed_most W H (picture 0 W l) (picture_most W l b))

-- the buffer held m
module _ (n J W H : ℕ) (k : Kernel) (l m c : List ℕ) where
  pub mask_of_placed : {m' : List ℕ} → k ≡ the_kernel n → Binary l → length m ≡ length c → picture 0 W c ≡ placed W H (picture 0 W l)
      → ((B : Picture Bool) → picture 0 W c ≡ placed W H (bytes B) → Result 0 true (mask_on k J W H B) c m') → Result 0 true (mask_byte n J W H l) m m'
  mask_of_placed chosen b same e r =
      let held : picture 0 W l ≡ bytes (region_of W l) = fun_ext λ y. fun_ext λ x. sym (byte_of-marked (picture 0 W l y x) (picture_most W l b y x)) in
      let p = r (region_of W l) (e ∙ ap (placed W H) held) in record {
        size = p.size ∙ sym same;
        cell = λ i h. p.cell i (rw same at h) ∙ ap (λ (q : Kernel). byte_of (mask_of q J W H (region_of W l) (i / W) (i % W))) chosen;
      }
