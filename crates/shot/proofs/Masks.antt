-- The mask of drawn rectangles is that of their region. Assumes nothing.
use mathlib.Core.Path.{◌≡◌, sym, ap, ◌∙◌, fun_ext}
use mathlib.Core.Bool.{Bool, true}
use mathlib.Core.List.{List}
use Prim.Native.Nat.{ℕ, ◌+◌, ◌*◌, ◌/◌, ◌%◌, ◌<◌, ◌≤◌}
use native.Mathlib.Nat.{mul_comm, mul-le-mul_right}
use native.Mathlib.Omega.{arith}
use lib.Arith.{digits_div, digits_mod, digits_lt}
use lib.ListN.{length, get_or, get_or-eq_default}
use borrow.Author.Tests.{lt-ltb, le-ltb}
use Rattle.kernel.specs.declared.Kernel.{Kernel}
use Rattle.line.specs.Mask.{byte_of}
use Rattle.line.proofs.Cells.{by_lt}
use Rattle.line.proofs.Lists.{listed-length, listed_cell, is_listed}
use Rattle.line.proofs.Marks.{byte_most}
use Rattle.grid.specs.Picture.{Picture, picture}
use Rattle.grid.specs.Placed.{placed}
use Rattle.grid.proofs.Passes.{cell}
use Rattle.grid.proofs.Parted.{placed_cell, placed_below, placed_right}
use Rattle.plane.specs.Plane.{mask_of}
use Rattle.refusal.specs.Results.{Result}
use Rattle.region.specs.Region.{in_region}
use Rattle.region.specs.Drawing.{placed_byte, Framed}
use Rattle.region.proofs.Painted.{outside_none}
use Rattle.region.proofs.Placed.{rectangles_framed}
use Rattle.picture_mask.specs.Areas.{Region, bytes, mask_on}
use Rattle.shot.specs.Inner.{Drawable}
use Rattle.shot.specs.Shots.{drawn, mask_bytes}

-- ---- as many bytes as coefficients, each 0 or 1
module _ (k : Kernel) (J W H : ℕ) (l : List ℕ) where
  pub mask_length : length (mask_bytes k J W H l) ≡ W * H
  unfolding mask_bytes
  mask_length = listed-length (W * H) _

  pub mask_binary : (i : ℕ) → i < W * H → get_or (mask_bytes k J W H l) i 2 < 2
  unfolding mask_bytes
  mask_binary i h = rw (listed_cell {A = ℕ} (W * H) _ 2 i h) (omega (arith, byte_most (mask_of k J W H (drawn l) (i / W) (i % W))))

-- ---- the mask that a buffer then holds: the region is drawn there, placed
module _ (J W H : ℕ) (l m₀ : List ℕ) (d : Drawable J W H l (length m₀)) where
  pub drawable_framed : Framed l W H (length m₀)
  drawable_framed = rectangles_framed d.inside (d.full ∙ mul_comm W H)

  module _ (m : List ℕ) (r : Result 0 true (placed_byte l W H) m₀ m) where
    full : length m ≡ W * H
    full = r.size ∙ d.full

    pub drawn_region : Region J W H m
    drawn_region = record {
      levels = d.levels;
      size = d.size;
      full = full;
      marks = record {
        each = λ i. by_lt i (length m)
            (λ lt. let e = r.cell i (omega (arith, r.size)) in let b = byte_most (placed W H (λ v u. in_region l u v) (i / W) (i % W)) in omega arith)
            (λ ge. let z : get_or m i 0 ≡ 0 = get_or-eq_default m 0 ge in omega arith);
      };
    }

    -- inside the picture, and right of it or below it, where nothing is drawn
    drawn_inside : (y x : ℕ) → y < H → x < W → picture 0 W m y x ≡ placed W H (bytes (drawn l)) y x
    drawn_inside y x i j =
        let h : y * W + x < length m₀ = omega (arith, d.full, mul_comm W H, digits_lt i j) in
        cell 0 W m y x j ∙ r.cell (y * W + x) h ∙ rw (digits_div y j, digits_mod y j)
        (ap byte_of (placed_cell W H (drawn l) y x i j) ∙ sym (placed_cell W H (bytes (drawn l)) y x i j))

    nothing : (y x : ℕ) → (x < W → y < H → ⊥) → bytes (drawn l) y x ≡ 0
    nothing y x out = ap byte_of (outside_none W H l d.inside x y out)

    drawn-placed : picture 0 W m ≡ placed W H (bytes (drawn l))
    unfolding picture
    drawn-placed = fun_ext λ y. fun_ext λ x. by_lt x W
        (λ lt. by_lt y H
        (λ i. drawn_inside y x i lt)
        (λ ge. let g : length m ≤ y * W + x = omega (arith, full, mul_comm W H, mul-le-mul_right W ge) in
        rw (lt-ltb x W lt, get_or-eq_default m 0 g) (sym (placed_below W H (bytes (drawn l)) y x ge ∙ nothing y x (λ a b. omega arith)))))
        (λ ge. rw (le-ltb x W ge) (sym (placed_right W H (bytes (drawn l)) y x ge ∙ nothing y x (λ a b. omega arith))))

    pub mask_bytes_lem : (k : Kernel) (m' : List ℕ) → ((B : Picture Bool) → picture 0 W m ≡ placed W H (bytes B) → Result 0 true (mask_on k J W H B) m m')
        → m' ≡ mask_bytes k J W H l
    unfolding mask_bytes
    mask_bytes_lem k m' all = let p = all (drawn l) drawn-placed in is_listed (W * H) _ 0 m' (p.size ∙ full) (λ i h. p.cell i (omega (arith, full)))
