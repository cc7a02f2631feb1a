-- What an accepted call of the writer knows of its shot and its plane.
--
--   Setting k J D W H   == a setting that passed its tests
--   Rectangles W H rs   == rectangle numbers that passed theirs
--   Writable s l        == the shot s and the plane l passed every test but those of the mask buffer and of the stream's room
--   Accepted s l m n    == they passed these too; m and n are the lengths of the mask buffer and of the stream buffer
--   taken               == what an accepted call leaves
--
-- Assumes nothing.
use mathlib.Core.Path.{◌≡◌, refl}
use mathlib.Core.Bool.{Bool, true, false}
use mathlib.Core.List.{List}
use Prim.Native.Nat.{ℕ, ◌<◌, ◌≤◌, ◌/◌, ◌%◌, ◌^◌}
use native.Mathlib.Omega.{arith}
use borrow.Author.Tests.{ltb-false, leb-false, eqb-true, not-false}
use lib.Dec.{ltb}
use lib.IntN.{ℤ, nat_abs}
use lib.ListN.{length}
use Rattle.line.specs.Cells.{choose, cell}
use Rattle.refusal.specs.Numbers.{accepted}
use Rattle.refusal.specs.Tests.{bad_kernel, bad_levels, bad_depth, bad_size, bad_length, bad_numbers, bad_rectangles, bad_magnitude}
use Rattle.refusal.proofs.Ordered.{passes_test, numbered, accepted_both}
use Rattle.refusal.proofs.Passed.{neither, inside, Sides, sides}
use Rattle.scan.specs.Scan.{largest, plane_count}
use Rattle.scan.proofs.Largest.{bad_magnitude-largest}
use Rattle.scan.proofs.PlaneCounts.{plane_count_lem, plane_count_most}
use Rattle.header.specs.Fields.{Shot}
use Rattle.shot.specs.Shots.{setting_tests, rectangle_tests}
use Rattle.codestream.specs.Stream.{area, total_length}
use Rattle.codestream.specs.Writing.{write_tests}

pub taken : {A : Type 0} (ok : Bool) (x y : A) → ok ≡ true → choose ok x y ≡ x
taken ok x y e = rw e

-- ---- a setting and rectangles that passed
pub record Setting (k J D W H : ℕ) : Type 0 where
  pub kernel : k < 4
  pub levels : (1 ≤ J) × (J ≤ 5)
  pub depth : (1 ≤ D) × (D ≤ 10)
  pub size : bad_size W H ≡ false
  pub sides : Sides W H

pub setting_passed : (k J D W H : ℕ) → accepted (setting_tests k J D W H) ≡ true → Setting k J D W H
setting_passed k J D W H e =
    let a = passes_test (bad_kernel k) 0 _ e in
    let b = passes_test (bad_levels J) 1 _ a.1 in
    let c = passes_test (bad_depth D) 2 _ b.1 in
    let d = passes_test (bad_size W H) 3 _ c.1 in
    record {
      kernel = leb-false 4 k a.0;
      levels = inside 1 5 J b.0;
      depth = inside 1 10 D c.0;
      size = d.0;
      sides = sides W H d.0;
    }

pub record Rectangles (W H : ℕ) (rs : List ℕ) : Type 0 where
  pub fours : length rs % 4 ≡ 0
  pub few : length rs / 4 ≤ 32
  pub inside : bad_rectangles W H rs ≡ false

pub rectangles_passed : (W H : ℕ) (rs : List ℕ) → accepted (rectangle_tests W H rs) ≡ true → Rectangles W H rs
rectangles_passed W H rs e =
    let a = passes_test (bad_numbers rs) 6 _ e in
    let b = passes_test (bad_rectangles W H rs) 7 _ a.1 in
    let c = neither _ (ltb 32 (length rs / 4)) a.0 in
    record { fours = eqb-true (length rs % 4) 0 (not-false _ c.0); few = ltb-false 32 (length rs / 4) c.1; inside = b.0 }

-- ---- the shot of a plane
pub record Writable (s : Shot) (l : List ℤ) : Type 0 where
  pub setting : accepted (setting_tests s.kernel s.levels s.depth s.width s.height) ≡ true
  pub drawing : accepted (rectangle_tests s.width s.height s.rectangles) ≡ true
  pub full : length l ≡ area s
  pub magnitude : bad_magnitude l ≡ false
  pub planes : s.planes ≡ plane_count l

pub record Accepted (s : Shot) (l : List ℤ) (m n : ℕ) : Type 0 where
  pub writable : Writable s l
  pub mask : m ≡ area s
  pub room : total_length s l ≤ n

pub write_passed : (s : Shot) (l : List ℤ) (m n : ℕ) → s.planes ≡ plane_count l → accepted (write_tests s l m n) ≡ true → Accepted s l m n
unfolding numbered
write_passed s l m n t e =
    let a = accepted_both _ (setting_tests s.kernel s.levels s.depth s.width s.height) refl e in
    let b = accepted_both _ (rectangle_tests s.width s.height s.rectangles) refl a.1 in
    let c = passes_test (bad_length s.width s.height (length l)) 4 _ b.1 in
    let d = passes_test (bad_length s.width s.height m) 4 _ c.1 in
    let f = passes_test (bad_magnitude l) 9 _ d.1 in
    let g = passes_test (ltb n (total_length s l)) 10 _ f.1 in
    record {
      writable = record { setting = a.0; drawing = b.0; full = eqb-true (length l) (area s) (not-false _ c.0); magnitude = f.0; planes = t };
      mask = eqb-true m (area s) (not-false _ d.0);
      room = ltb-false n (total_length s l) g.0;
    }

-- ---- what a writable shot has
module _ {s : Shot} {l : List ℤ} (w : Writable s l) where
  pub setting_of : Setting s.kernel s.levels s.depth s.width s.height
  setting_of = setting_passed s.kernel s.levels s.depth s.width s.height w.setting

  pub rectangles_of : Rectangles s.width s.height s.rectangles
  rectangles_of = rectangles_passed s.width s.height s.rectangles w.drawing

  pub plane_small : largest l < 2 ^ 22
  plane_small = leb-false (2 ^ 22) (largest l) (rw (bad_magnitude-largest l) at w.magnitude)

  pub planes_most : s.planes ≤ 22
  planes_most = omega (arith, w.planes, plane_count_most l 22 plane_small)

  pub each_small : (i : ℕ) → nat_abs (cell l i) < 2 ^ s.planes
  each_small = rw w.planes (plane_count_lem l (omega (arith, plane_small))).each
