-- The picture at a level, place by place: level 0, the deepest level, planes that agree on the mask, and the plane of a picture. Assumes nothing.
use mathlib.Core.Path.{◌≡◌, refl, sym, ap, ◌∙◌}
use mathlib.Core.Bool.{Bool, true, false, ◌&&◌, ◌||◌}
use mathlib.Core.List.{List, [], ◌∷◌}
use Prim.Native.Nat.{ℕ, ◌+◌, ◌*◌, ◌-◌, ◌/◌, ◌%◌, ◌<◌, ◌≤◌}
use native.Mathlib.Nat.{mul_comm, mod-lt, div-lt_iff_lt-mul}
use native.Mathlib.Omega.{arith}
use borrow.Author.Tests.{le-ltb, ltb-false}
use lib.Arith.{digits_div, digits_mod, digits_lt}
use lib.IntN.{ℤ, pos}
use lib.ListN.{length, get_or}
use Rattle.kernel.specs.Kernels.{the_kernel}
use Rattle.line.proofs.Lists.{listed_cell}
use Rattle.grid.specs.Picture.{Picture, side, walk, AgreeOn}
use Rattle.grid.proofs.Passes.{cell}
use Rattle.grid.proofs.Levels.{side-le, side_some}
use Rattle.grid.proofs.Alike.{Alike}
use Rattle.plane.specs.Plane.{transformed, mask_of, level_picture}
use Rattle.plane.proofs.Inverse.{level_transform}
use Rattle.plane.proofs.Levels.{level_agrees, level_alike, stored_level}
use Rattle.refusal.specs.Numbers.{test, first, accepted}
use Rattle.refusal.specs.Tests.{bad_kernel, bad_levels, bad_level, bad_depth, bad_size, bad_length, bad_magnitude}
use Rattle.refusal.proofs.Ordered.{passes_test}
use Rattle.refusal.proofs.Passed.{Sides, sides}
use Rattle.wavelet.specs.Wavelet.{samples_of, coefficients_of, coefficient, undone_number, undo_tests}
use Rattle.samples.specs.Samples.{show_tests}
use Rattle.level_picture.specs.Level.{level_number, level_tests}
use Rattle.header.specs.Fields.{Shot, shot_of}
use Rattle.codestream.specs.Reading.{plane_of}
use Rattle.exactness.specs.Shown.{undone_at, in_region_at, plane_for, level_area, level_number_at, own_number, in_level_mask, in_level_at}

-- ---- places of a picture: the row of a place, and the place in a row
module _ (W H : ℕ) where
  pub row_in : (i : ℕ) → 1 ≤ W → i < W * H → i / W < H
  row_in i some h = (div-lt_iff_lt-mul some).1 (omega (arith, mul_comm W H))

  pub place_in : (y x : ℕ) → y < H → x < W → y * W + x < W * H
  place_in y x p q = omega (arith, digits_lt p q, mul_comm W H)

-- a place of the area, which is one of the picture
module _ (r W H i : ℕ) (some : 0 < W) (h : i < side r W * side r H) where
  pub area_row : i / side r W < side r H
  area_row = row_in (side r W) (side r H) i (side_some r W some) h

  pub area_column : i % side r W < side r W
  area_column = mod-lt i (side_some r W some)

  pub level_row : i / side r W < H
  level_row = omega (arith, area_row, side-le r H)

  pub level_column : i % side r W < W
  level_column = omega (arith, area_column, side-le r W)

-- ---- level 0
module _ (k J W H : ℕ) (plane : List ℤ) (i : ℕ) where
  pub number_full : level_number k J 0 W H plane i ≡ undone_number k J W H plane i
  unfolding side
  number_full = let e : J - 0 ≡ J = omega arith in rw e

pub number_at : (l : List ℕ) (i : ℕ) → level_number_at 0 l i ≡ undone_at l i
number_at l i = let s = shot_of l in number_full s.kernel s.levels s.width s.height (plane_of l) i

module _ (s : Shot) where
  pub area_full : level_area 0 s ≡ s.width * s.height
  unfolding side
  area_full = refl

  pub mask_full : (i : ℕ) → in_level_at 0 s i ≡ in_region_at s i
  unfolding side walk
  mask_full i = refl

pub and-false : (b : Bool) → (b && false) ≡ false
and-false true = refl
and-false false = refl

-- the tests of level 0, of undoing and of showing: a kernel, b levels, d depth, e size, p, n and s lengths, m magnitudes
same_tests : (a b d e p n s m : Bool)
    → accepted (test a 1 ∷ test b 2 ∷ test false 17 ∷ test d 3 ∷ test e 4 ∷ test p 5 ∷ test (n || s) 5 ∷ test m 10 ∷ [])
    ≡ (accepted (test a 1 ∷ test b 2 ∷ test e 4 ∷ test p 5 ∷ test n 5 ∷ test m 10 ∷ []) && accepted (test d 3 ∷ test e 4 ∷ test n 5 ∷ test s 5 ∷ []))
unfolding first
same_tests true b d e p n s m = refl
same_tests false true d e p n s m = refl
same_tests false false true e p n s m = sym (and-false (accepted (test e 4 ∷ test p 5 ∷ test n 5 ∷ test m 10 ∷ [])))
same_tests false false false true p n s m = refl
same_tests false false false false true n s m = refl
same_tests false false false false false true s m = refl
same_tests false false false false false false true m = sym (and-false (accepted (test m 10 ∷ [])))
same_tests false false false false false false false true = refl
same_tests false false false false false false false false = refl

pub tests_full : (k J D W H : ℕ) (plane : List ℤ) (n s : ℕ) → accepted (level_tests k J 0 D W H plane n s) ≡ (accepted (undo_tests k J W H plane n) && accepted (show_tests D W H n s))
unfolding side
tests_full k J D W H plane n s = rw (le-ltb J 0 (omega arith))
    (same_tests (bad_kernel k) (bad_levels J) (bad_depth D) (bad_size W H) (bad_length W H (length plane)) (bad_length W H n) (bad_length W H s) (bad_magnitude plane))

-- ---- an accepted call
module _ (k J r D W H : ℕ) (plane : List ℤ) (n s : ℕ) (ok : accepted (level_tests k J r D W H plane n s) ≡ true) where
  parts : (r ≤ J) × Sides W H
  parts =
      let a = passes_test (bad_kernel k) 0 _ ok in
      let b = passes_test (bad_levels J) 1 _ a.1 in
      let c = passes_test (bad_level r J) 16 _ b.1 in
      let d = passes_test (bad_depth D) 2 _ c.1 in
      (ltb-false J r c.0, sides W H (passes_test (bad_size W H) 3 _ d.1).0)

  pub level_few : r ≤ J
  level_few = parts.0

  pub some_width : 0 < W
  some_width = parts.1.width.0

-- ---- the deepest level
pub number_lowest : (k J W H : ℕ) (plane : List ℤ) (i : ℕ) → 0 < W → i < side J W * side J H → level_number k J J W H plane i ≡ get_or plane (i / side J W * W + i % side J W) (pos 0)
number_lowest k J W H plane i some h =
    ap (λ (P : Picture ℤ). P (i / side J W) (i % side J W)) (stored_level (the_kernel k) J W H (coefficients_of W plane))
    ∙ cell (pos 0) W plane (i / side J W) (i % side J W) (level_column J W H i some h)

-- ---- planes that agree on the mask
pub numbers_agree : (k J r W H : ℕ) (B : Picture Bool) (p p' : List ℤ) → 0 < W → r ≤ J → AgreeOn W H (mask_of (the_kernel k) J W H B) (coefficients_of W p) (coefficients_of W p')
    → (i : ℕ) → i < side r W * side r H → in_level_mask k r W H B i ≡ true → level_number k J r W H p i ≡ level_number k J r W H p' i
numbers_agree k J r W H B p p' some few a i h t =
    level_agrees (the_kernel k) J W H B (coefficients_of W p) (coefficients_of W p') a r few (i / side r W) (i % side r W) (level_row r W H i some h) (level_column r W H i some h) t

-- ---- planes that hold the same in the area
module _ (k J r W H : ℕ) (P : Picture ℤ) (plane : List ℤ) (some : 0 < W) (same : Alike (side r W) (side r H) (coefficients_of W plane) P) (i : ℕ) (h : i < side r W * side r H) where
  pub number_within : level_number k J r W H plane i ≡ level_picture (the_kernel k) J r W H P (i / side r W) (i % side r W)
  number_within = level_alike (the_kernel k) J r W H (coefficients_of W plane) P same (i / side r W) (i % side r W) (area_row r W H i some h) (area_column r W H i some h)

-- ---- the plane of a picture
pub number_own : (k J r W H : ℕ) (samples : List ℕ) → 0 < W → r ≤ J → (i : ℕ) → i < side r W * side r H
    → level_number k J r W H (plane_for k J W H samples) i ≡ own_number k r W H samples i
number_own k J r W H samples some few i h =
    let K = the_kernel k in
    let plane = plane_for k J W H samples in
    let P = transformed K J W H (samples_of W samples) in
    let in-picture : (y x : ℕ) → y < H → x < W → coefficients_of W plane y x ≡ P y x
    = λ y x a b. cell (pos 0) W plane y x b ∙ listed_cell (W * H) (coefficient k J W H samples) (pos 0) (y * W + x) (place_in W H y x a b) ∙ (rw (digits_div y b, digits_mod y b)) in
    let same : Alike (side r W) (side r H) (coefficients_of W plane) P = λ y x a b. in-picture y x (omega (arith, side-le r H)) (omega (arith, side-le r W)) in
    number_within k J r W H P plane some same i h
    ∙ ap (λ (Q : Picture ℤ). Q (i / side r W) (i % side r W)) (level_transform K J r W H (samples_of W samples) few)
