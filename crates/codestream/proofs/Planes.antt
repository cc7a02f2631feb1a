-- A plane that was read is accepted: it has a coefficient a place, each below 2^22. Assumes nothing.
use mathlib.Core.Path.{◌≡◌, refl}
use mathlib.Core.Bool.{true, false}
use mathlib.Core.List.{List}
use Prim.Native.Nat.{ℕ, ◌^◌, ◌<◌, ◌≤◌}
use native.Mathlib.Omega.{arith}
use borrow.Author.Tests.{ltb-false, leb-true}
use lib.Dec.{leb}
use lib.IntN.{ℤ, pos, nat_abs}
use lib.ListN.{length, get_or}
use lib.Pow.{pow_mono}
use Rattle.line.proofs.Lists.{listed-length, listed_cell}
use Rattle.line.proofs.Marks.{any_elim}
use Rattle.bitplane.specs.Bits.{bit_at}
use Rattle.bitplane.specs.Body.{class}
use Rattle.bitplane.specs.Reader.{received}
use Rattle.bitplane.proofs.Classes.{one_class}
use Rattle.bitplane.proofs.Small.{read_small}
use Rattle.refusal.specs.Numbers.{accepted}
use Rattle.refusal.specs.Tests.{bad_magnitude}
use Rattle.refusal.proofs.Ordered.{passes_test, numbered, accepted_both}
use Rattle.refusal.proofs.Passed.{not_any}
use Rattle.header.specs.Header.{body_tests, body_of}
use Rattle.header.specs.Fields.{shot_of}
use Rattle.shot.specs.Shots.{shot_mask, setting_tests, rectangle_tests}
use Rattle.codestream.specs.Stream.{area}
use Rattle.codestream.specs.Reading.{answer_of, plane_of, bad_planes, read_tests}

bits_binary : (l : List ℕ) (p : ℕ) → bit_at l p < 2
unfolding bit_at
bits_binary l p = omega arith

-- a plane of small coefficients
good_magnitude : (l : List ℤ) → ((i : ℕ) → i < length l → nat_abs (get_or l i (pos 0)) < 2 ^ 22) → bad_magnitude l ≡ false
unfolding bad_magnitude
good_magnitude l h = not_any _ λ t. any_elim (length l) (λ i. leb (2 ^ 22) (nat_abs (get_or l i (pos 0)))) t
    λ k b p. omega (arith, leb-true (2 ^ 22) (nat_abs (get_or l k (pos 0))) p, h k b)

module _ (l : List ℕ) where
  pub plane_length : length (plane_of l) ≡ area (shot_of l)
  plane_length = listed-length (area (shot_of l)) (answer_of l).value

  coefficient_small : (i : ℕ) → nat_abs ((answer_of l).value i) < 2 ^ (shot_of l).planes
  coefficient_small i = let s = shot_of l in
      read_small (received (body_of l)) (bits_binary (body_of l)) (area s) (class (shot_mask s) 1) (class (shot_mask s) 0) (λ i o. one_class (shot_mask s) 1 0 i (λ e. omega arith) o) s.planes i

  planes_read : (n m : ℕ) → accepted (read_tests l n m) ≡ true → (shot_of l).planes ≤ 22
  unfolding numbered
  planes_read n m e = let s = shot_of l in
      let a = accepted_both _ (body_tests l) refl e in
      let b = accepted_both _ (setting_tests s.kernel s.levels s.depth s.width s.height) refl a.1 in
      let c = accepted_both _ (rectangle_tests s.width s.height s.rectangles) refl b.1 in
      ltb-false 22 s.planes (passes_test (bad_planes s.planes) 13 _ c.1).0

  pub plane_accepted : (n m : ℕ) → accepted (read_tests l n m) ≡ true → (bad_magnitude (plane_of l) ≡ false) × (length (plane_of l) ≡ area (shot_of l))
  plane_accepted n m e =
      let each : (i : ℕ) → i < length (plane_of l) → nat_abs (get_or (plane_of l) i (pos 0)) < 2 ^ 22
      = λ i h. rw (listed_cell (area (shot_of l)) (answer_of l).value (pos 0) i (omega (arith, plane_length)))
      (omega (arith, coefficient_small i, pow_mono {i = (shot_of l).planes} {j = 22} (planes_read n m e))) in
      (good_magnitude (plane_of l) each, plane_length)
