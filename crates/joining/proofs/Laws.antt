-- The laws of joining. Assumes nothing.
use mathlib.Core.Path.{◌≡◌, ap, ◌∙◌, fun_ext}
use mathlib.Core.Bool.{Bool, or_comm, or_assoc, or_self, or-false}
use mathlib.Core.List.{List, ◌++◌}
use Prim.Native.Nat.{ℕ, ◌/◌, ◌%◌}
use lib.ListN.{length}
use Rattle.kernel.specs.declared.Kernel.{Kernel}
use Rattle.kernel.specs.Kernels.{the_kernel}
use Rattle.line.specs.Mask.{byte_of}
use Rattle.grid.specs.Picture.{Picture}
use Rattle.plane.specs.Plane.{mask_of, join}
use Rattle.plane.proofs.Joined.{mask_joined, mask_empty, mask_inside}
use Rattle.region.specs.Region.{in_region}
use Rattle.picture_mask.specs.Masks.{region_of}
use Rattle.shot.specs.Shots.{drawn, mask_bytes}
use Rattle.joining.specs.Join.{join_byte}
use Rattle.joining.specs.Laws.{filled, Joining}
use Rattle.joining.proofs.Bytes.{region_joined, region_inside, byte_inside, joined_filled}
use Rattle.joining.proofs.Rectangles.{region_append}

-- the mask of a region that is joined from B and C, as bytes
module _ (k : Kernel) (J W H : ℕ) where
  mask_bytes_joined : (A B C : Picture Bool) → A ≡ join B C → let bytes : Picture Bool → List ℕ = λ R. filled W H (λ i. byte_of (mask_of k J W H R (i / W) (i % W))) in
      bytes A ≡ filled W H (join_byte (bytes B) (bytes C))
  mask_bytes_joined A B C e =
      ap (λ (R : Picture Bool). filled W H (λ i. byte_of (R (i / W) (i % W)))) (ap (mask_of k J W H) e ∙ mask_joined k J W H B C)
      ∙ joined_filled W H (λ i. mask_of k J W H B (i / W) (i % W)) (λ i. mask_of k J W H C (i / W) (i % W))

  mask_added : (l m : List ℕ) → length l % 4 ≡ 0 → mask_bytes k J W H (l ++ m) ≡ filled W H (join_byte (mask_bytes k J W H l) (mask_bytes k J W H m))
  unfolding mask_bytes
  mask_added l m four = mask_bytes_joined (drawn (l ++ m)) (drawn l) (drawn m) (fun_ext λ y. fun_ext λ x. region_append l m four x y)

pub joining : Joining
joining = record {
  masks = mask_joined;
  levels = mask_joined;
  order = λ B C. fun_ext λ y. fun_ext λ x. or_comm (B y x) (C y x);
  grouping = λ B C D. fun_ext λ y. fun_ext λ x. or_assoc (B y x) (C y x) (D y x);
  itself = λ B. fun_ext λ y. fun_ext λ x. or_self (B y x);
  nothing = λ B. fun_ext λ y. fun_ext λ x. or-false (B y x);
  unmarked = mask_empty;
  inside = mask_inside;
  rectangles = region_append;
  contained = λ k J W H a b h i. byte_inside _ _ (mask_inside (the_kernel k) J W H (region_of W a) (region_of W b) (region_inside W a b h) (i / W) (i % W));
  called = λ k J W H a b p q. mask_bytes_joined (the_kernel k) J W H _ (region_of W a) (region_of W b) (region_joined W H a b p q);
  drawn = λ W H l m four. ap (filled W H) (fun_ext λ i. ap byte_of (region_append l m four (i % W) (i / W))) ∙ joined_filled W H (λ i. in_region l (i % W) (i / W)) (λ i. in_region m (i % W) (i / W));
  added = mask_added;
}
