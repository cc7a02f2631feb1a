-- Which test of a call holds first, and what a header that passed its tests has.
--
--   Passed l == the header of the stream l passed its tests
--
-- Assumes nothing.
use mathlib.Core.Path.{◌≡◌, refl, sym, ap, ◌∙◌}
use mathlib.Core.Bool.{true, false}
use mathlib.Core.List.{List}
use Prim.Native.Nat.{ℕ, ◌*◌, ◌≤◌}
use lib.Dec.{eqb}
use borrow.Author.Tests.{eq-eqb, ne_eqb}
use Rattle.refusal.specs.Numbers.{first}
use Rattle.refusal.specs.Tests.{bad_length}
use Rattle.refusal.proofs.Ordered.{here, next, is, isnt, passes_test, numbered, upto, first-upto, accepted_both, first-append}
use Rattle.header.specs.Header.{bad_header, bad_version}
use Rattle.header.specs.Fields.{shot_of}
use Rattle.shot.specs.Shots.{setting_tests, rectangle_tests}
use Rattle.codestream.specs.Reading.{bad_planes, header_tests, buffer_tests, filling_test, read_tests}
use Rattle.codestream.proofs.Accepted.{Setting, setting_passed, Rectangles, rectangles_passed}

-- a buffer's length
module _ {W H W' H' n : ℕ} (width : W ≡ W') (height : H ≡ H') where
  pub full_length : n ≡ W * H → bad_length W' H' n ≡ false
  full_length e = rw (← width, ← height) (is (eqb n (W * H)) (eq-eqb n (W * H) e))

  pub other_length : (n ≡ W * H → ⊥) → bad_length W' H' n ≡ true
  other_length e = rw (← width, ← height) (isnt (eqb n (W * H)) (ne_eqb n (W * H) e))

-- ---- a header that passed
pub record Passed (l : List ℕ) : Type 0 where
  pub header : bad_header l ≡ false
  pub version : bad_version l ≡ false
  pub setting : let s = shot_of l in Setting s.kernel s.levels s.depth s.width s.height
  pub rectangles : let s = shot_of l in Rectangles s.width s.height s.rectangles
  pub planes : bad_planes (shot_of l).planes ≡ false

pub passed : (l : List ℕ) → first (header_tests l) ≡ 0 → Passed l
unfolding numbered
passed l e =
    let s = shot_of l in
    let a = passes_test (bad_header l) 11 _ (ap (λ (x : ℕ). eqb x 0) e) in
    let b = passes_test (bad_version l) 12 _ a.1 in
    let c = accepted_both _ (setting_tests s.kernel s.levels s.depth s.width s.height) refl b.1 in
    let d = accepted_both _ (rectangle_tests s.width s.height s.rectangles) refl c.1 in
    record {
      header = a.0;
      version = b.0;
      setting = setting_passed s.kernel s.levels s.depth s.width s.height c.0;
      rectangles = rectangles_passed s.width s.height s.rectangles d.0;
      planes = (passes_test (bad_planes s.planes) 13 _ d.1).0;
    }

-- its tests are none of 15 and 16
pub header_most : (l : List ℕ) → first (header_tests l) ≤ 14
unfolding upto
header_most l = first-upto 14 (header_tests l) refl

module _ (l : List ℕ) (n m : ℕ) where
  -- ---- behind those of the header
  pub plane_other : bad_length (shot_of l).width (shot_of l).height n ≡ true → 5 ≡ first (buffer_tests l n m)
  plane_other e = here _ 5 _ e

  module _ (plane-full : bad_length (shot_of l).width (shot_of l).height n ≡ false) where
    pub mask_other : bad_length (shot_of l).width (shot_of l).height m ≡ true → 5 ≡ first (buffer_tests l n m)
    mask_other e = next _ 5 5 _ plane-full (here _ 5 _ e)

    pub filling_only : bad_length (shot_of l).width (shot_of l).height m ≡ false → first (filling_test l) ≡ first (buffer_tests l n m)
    filling_only e = next _ _ 5 _ plane-full (next _ _ 5 _ e refl)

  -- ---- those of the call
  pub refused_first : {x : ℕ} → x ≡ first (header_tests l) → eqb x 0 ≡ false → x ≡ first (read_tests l n m)
  unfolding numbered
  refused_first e z = e ∙ sym (first-append (buffer_tests l n m) (header_tests l) refl ∙ rw (← e, z) refl)

  pub passed_first : first (header_tests l) ≡ 0 → first (buffer_tests l n m) ≡ first (read_tests l n m)
  unfolding numbered
  passed_first e = sym (first-append (buffer_tests l n m) (header_tests l) refl ∙ rw e refl)
