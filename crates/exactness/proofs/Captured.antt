-- The region as captured: a stream written from the plane of an accepted picture, with the kernel, J, D, W and H under which it was transformed,
-- shows the picture, and each of its cuts from the region mark on shows the picture's region; at level r, the picture's own transform with r levels.
-- Assumes nothing.
use mathlib.Core.Path.{◌≡◌, refl, sym, ap, ap₂, ◌∙◌, subst}
use mathlib.Core.Bool.{true}
use mathlib.Core.List.{List}
use Prim.Native.Nat.{ℕ, ◌*◌, ◌-◌, ◌^◌, ◌<◌, ◌≤◌}
use native.Mathlib.Nat.{mul_comm}
use native.Mathlib.Omega.{arith}
use lib.IntN.{ℤ, pos}
use lib.ListN.{length, get_or, take}
use borrow.Author.Tests.{eqb-true, not-false}
use Rattle.line.specs.Cells.{listed}
use Rattle.line.proofs.Lists.{is_listed}
use Rattle.grid.specs.Picture.{side, walk}
use Rattle.grid.proofs.Passes.{cell_of}
use Rattle.bitplane.specs.Reader.{Answer}
use Rattle.refusal.specs.Numbers.{accepted}
use Rattle.refusal.specs.Tests.{bad_kernel, bad_levels, bad_depth, bad_size, bad_length, bad_sample}
use Rattle.refusal.proofs.Ordered.{passes_test}
use Rattle.refusal.proofs.Passed.{Sides, sides, samples}
use Rattle.wavelet.specs.Wavelet.{transform_tests}
use Rattle.brightness.specs.Brightness.{brightness_numbers}
use Rattle.samples.specs.Samples.{in_range}
use Rattle.header.specs.Fields.{Shot, shot_of}
use Rattle.header.specs.Arrival.{cut_to, arrived_of}
use Rattle.codestream.specs.Stream.{area, region_mark, total_length, stream}
use Rattle.codestream.specs.Writing.{shot_for, write_tests}
use Rattle.codestream.specs.Reading as reading
use Rattle.codestream.proofs.Accepted.{Writable, write_passed}
use Rattle.codestream.proofs.Parts.{Parts, stream_parts, stream-length}
use Rattle.codestream.proofs.Bodies.{body_whole}
use Rattle.codestream.proofs.Cuts.{Cuttable}
use Rattle.codestream.proofs.RoundTrip.{answer_read, tests_read, plane_read}
use Rattle.exactness.specs.Shown.{shown_at, in_region_at, plane_for, brightness_of, RegionInside, level_area, level_number_at, level_sample_at, own_number, in_level_at}
use Rattle.exactness.proofs.Levels.{number_at, area_full, number_own}
use Rattle.exactness.proofs.Regions.{number_of}
use Rattle.exactness.proofs.Cuts.{level_cut, level_shown, every_cut, arrived_is}
use Rattle.exactness.proofs.Brightness.{alike_of, of_shot, bright_cut}
use Rattle.exactness.proofs.Written.{stream_bytes}

-- a sample in range is shown as it is
in_range-pos : (D a : ℕ) → a ≤ 2 ^ D - 1 → in_range D (pos a) ≡ a
unfolding in_range
in_range-pos D a h = omega arith

-- ---- an accepted picture
record Pictured (D W H : ℕ) (l : List ℕ) : Type 0 where
  sides : Sides W H
  full : length l ≡ W * H
  each : (i : ℕ) → i < length l → get_or l i 0 ≤ 2 ^ D - 1

pictured : (k J D W H : ℕ) (l : List ℕ) (n : ℕ) → accepted (transform_tests k J D W H l n) ≡ true → Pictured D W H l
pictured k J D W H l n ok =
    let a = passes_test (bad_kernel k) 0 _ ok in
    let b = passes_test (bad_levels J) 1 _ a.1 in
    let c = passes_test (bad_depth D) 2 _ b.1 in
    let d = passes_test (bad_size W H) 3 _ c.1 in
    let e = passes_test (bad_length W H (length l)) 4 _ d.1 in
    let f = passes_test (bad_length W H n) 4 _ e.1 in
    let g = passes_test (bad_sample D l) 5 _ f.1 in
    record { sides = sides W H d.0; full = eqb-true (length l) (W * H) (not-false _ e.0); each = samples D l g.0 }

-- ---- its own transform, with no level
own_full : (k W H : ℕ) (l : List ℕ) (i : ℕ) → i < W * H → own_number k 0 W H l i ≡ pos (get_or l i 0)
unfolding side walk
own_full k W H l i h = ap pos (sym (cell_of 0 W l H i (omega (arith, mul_comm W H))))

module _ (k J D W H : ℕ) (rs samples : List ℕ) (p m n : ℕ) (ok : accepted (transform_tests k J D W H samples p) ≡ true)
    (written : accepted (write_tests (shot_for k J D W H rs (plane_for k J W H samples)) (plane_for k J W H samples) m n) ≡ true) where
  abbrev plane : List ℤ
  plane = plane_for k J W H samples

  abbrev s : Shot
  s = shot_for k J D W H rs plane

  abbrev x : List ℕ
  x = stream s plane

  w : Writable s plane
  w = (write_passed s plane m n refl written).writable

  parts : Parts x s plane
  parts = stream_parts w

  q : Pictured D W H samples
  q = pictured k J D W H samples p ok

  -- ---- the whole stream
  pub level_captured : (r : ℕ) → r ≤ J → (i : ℕ) → i < level_area r s → level_number_at r x i ≡ own_number k r W H samples i
  level_captured r few i h =
      ap (λ (t : Shot). number_of r t (reading.plane_of x) i) parts.shot ∙ ap (λ (l : List ℤ). number_of r s l i) (plane_read w parts)
      ∙ number_own k J r W H samples q.sides.width.0 few i h

  pub level_captured_shown : (r : ℕ) → r ≤ J → (i : ℕ) → i < level_area r s → level_sample_at r x i ≡ in_range D (own_number k r W H samples i)
  level_captured_shown r few i h = ap₂ in_range (ap (λ (t : Shot). t.depth) parts.shot) (level_captured r few i h)

  pub captured : (i : ℕ) → i < W * H → shown_at x i ≡ get_or samples i 0
  captured i h =
      ap (in_range (shot_of x).depth) (sym (number_at x i)) ∙ level_captured_shown 0 (omega arith) i (rw (area_full s) h)
      ∙ ap (in_range D) (own_full k W H samples i h) ∙ in_range-pos D (get_or samples i 0) (q.each i (omega (arith, q.full)))

  -- a cut of it
  cuttable : (c : ℕ) → region_mark s plane ≤ c → c ≤ total_length s plane → Cuttable x (area s) (area s) c
  cuttable c low high =
      let a = answer_read w parts in
      let mark : (reading.answer_of x).region_mark ≡ region_mark s plane = ap (λ (r : Answer). r.region_mark) a ∙ (body_whole w).region_mark in
      record {
        read = tests_read w parts (area s) (area s) refl refl;
        whole = ap (λ (r : Answer). r.whole) a ∙ (body_whole w).whole;
        low = omega arith;
        high = omega (arith, stream-length s plane);
      }

  module _ (c : ℕ) (low : region_mark s plane ≤ c) (high : c ≤ total_length s plane) (r : ℕ) (few : r ≤ J) (i : ℕ) (h : i < level_area r s) (t : in_level_at r s i ≡ true) where
    here : (r ≤ (shot_of x).levels) × (i < level_area r (shot_of x)) × (in_level_at r (shot_of x) i ≡ true)
    here = subst (λ (u : Shot). (r ≤ u.levels) × (i < level_area r u) × (in_level_at r u i ≡ true)) (sym parts.shot) (few, h, t)

    pub level_captured_cut : level_number_at r (cut_to x c) i ≡ own_number k r W H samples i
    level_captured_cut = level_cut x (area s) (area s) c (stream_bytes s plane) (cuttable c low high) r here.0 i here.1 here.2 ∙ level_captured r few i h

    pub level_captured_cut_shown : level_sample_at r (cut_to x c) i ≡ in_range D (own_number k r W H samples i)
    level_captured_cut_shown = level_shown x (area s) (area s) c (stream_bytes s plane) (cuttable c low high) r here.0 i here.1 here.2 ∙ level_captured_shown r few i h

  pub captured_cut : (c : ℕ) → region_mark s plane ≤ c → c ≤ total_length s plane → (i : ℕ) → i < W * H → in_region_at s i ≡ true → shown_at (cut_to x c) i ≡ get_or samples i 0
  captured_cut c low high i h t =
      let e = every_cut x (area s) (area s) c (stream_bytes s plane) (cuttable c low high) in
      e.shown i (subst (λ (u : Shot). i < area u) (sym parts.shot) h) (subst (λ (u : Shot). in_region_at u i ≡ true) (sym parts.shot) t) ∙ captured i h

  -- what arrived of it
  pub captured_arrived : (c : ℕ) → region_mark s plane ≤ c → c ≤ total_length s plane → (i : ℕ) → i < W * H → in_region_at s i ≡ true → shown_at (arrived_of (take c x)) i ≡ get_or samples i 0
  captured_arrived c low high i h t =
      ap (λ (l : List ℕ). shown_at l i) (arrived_is x (area s) (area s) c (stream_bytes s plane) (cuttable c low high)) ∙ captured_cut c low high i h t

  -- its brightness
  samples-listed : (region : List ℕ) → brightness_numbers W H (listed (W * H) (λ i. get_or samples i 0)) region ≡ brightness_numbers W H samples region
  samples-listed region = ap (λ (l : List ℕ). brightness_numbers W H l region) (sym (is_listed (W * H) (λ i. get_or samples i 0) 0 samples q.full (λ i h. refl)))

  pub bright_whole : (region : List ℕ) → brightness_of x region ≡ brightness_numbers W H samples region
  bright_whole region =
      of_shot x s parts.shot region ∙ alike_of s (shown_at x) (λ i. get_or samples i 0) region (λ i h t. captured i h) ∙ samples-listed region

  pub bright_captured : (c : ℕ) → region_mark s plane ≤ c → c ≤ total_length s plane → (region : List ℕ) → RegionInside s region
      → brightness_of (cut_to x c) region ≡ brightness_numbers W H samples region
  bright_captured c low high region inside =
      bright_cut x (area s) (area s) c (stream_bytes s plane) (cuttable c low high) region (subst (λ (u : Shot). RegionInside u region) (sym parts.shot) inside)
      ∙ bright_whole region
