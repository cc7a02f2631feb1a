-- The tests in front of 17, and those of the whole call. Assumes nothing.
use mathlib.Core.Path.{◌≡◌, refl, sym, ap, ◌∙◌}
use mathlib.Core.Bool.{Bool, true, false, ◌&&◌}
use mathlib.Core.List.{List, ◌++◌}
use Prim.Native.Nat.{ℕ, ◌≤◌}
use borrow.Author.Tests.{ltb-false}
use lib.Dec.{eqb, ltb}
use Rattle.refusal.specs.Numbers.{first, accepted}
use Rattle.refusal.specs.Tests.{bad_kernel, bad_levels, bad_level}
use Rattle.refusal.proofs.Ordered.{numbered, first-append, accepted_both}
use Rattle.header.specs.Header.{bad_header, bad_version}
use Rattle.header.specs.Fields.{shot_of}
use Rattle.codestream.specs.Reading.{header_tests}
use Rattle.exactness.specs.Shown.{front_tests, area_tests, stream_tests}
use Rattle.exactness.proofs.Streams.{stream_first}

-- ---- one test after the other
module _ (l : List ℕ) (r : ℕ) where
  -- what `bad_level` tells
  abbrev pub above : Bool
  above = accepted (front_tests l) && bad_level r (shot_of l).levels

  pub header_before : bad_header l ≡ true → false ≡ above
  unfolding first
  header_before a = rw a

  module _ (a : bad_header l ≡ false) where
    pub version_before : bad_version l ≡ true → false ≡ above
    unfolding first
    version_before b = rw (a, b)

    module _ (b : bad_version l ≡ false) where
      pub kernel_before : bad_kernel (shot_of l).kernel ≡ true → false ≡ above
      unfolding first
      kernel_before c = rw (a, b, c)

      module _ (c : bad_kernel (shot_of l).kernel ≡ false) where
        pub levels_before : bad_levels (shot_of l).levels ≡ true → false ≡ above
        unfolding first
        levels_before d = rw (a, b, c, d)

        pub none_before : bad_levels (shot_of l).levels ≡ false → ltb (shot_of l).levels r ≡ above
        unfolding first
        none_before d = rw (a, b, c, d)

-- ---- which test of the call holds first
module _ (l : List ℕ) (r n m u s : ℕ) where
  pub level_first : above l r ≡ true → 17 ≡ first (stream_tests l r n m u s)
  level_first e = sym (stream_first l r n m u s ∙ (rw e))

  behind : above l r ≡ false → first (stream_tests l r n m u s) ≡ first (header_tests l ++ area_tests l r n m u s)
  behind e = stream_first l r n m u s ∙ (rw e)

  pub header_first : above l r ≡ false → {x : ℕ} → x ≡ first (header_tests l) → eqb x 0 ≡ false → x ≡ first (stream_tests l r n m u s)
  unfolding numbered
  header_first a e z = e ∙ sym (behind a ∙ first-append (area_tests l r n m u s) (header_tests l) refl ∙ rw (← e, z) refl)

  pub area_first : above l r ≡ false → first (header_tests l) ≡ 0 → first (area_tests l r n m u s) ≡ first (stream_tests l r n m u s)
  unfolding numbered
  area_first a e = sym (behind a ∙ first-append (area_tests l r n m u s) (header_tests l) refl ∙ rw e refl)

-- a level that is not above a header's that was taken
pub level_within : (l : List ℕ) (r : ℕ) → above l r ≡ false → first (header_tests l) ≡ 0 → r ≤ (shot_of l).levels
unfolding numbered
level_within l r a e =
    let p = (accepted_both _ (front_tests l) refl (ap (λ (f : ℕ). eqb f 0) e)).0 in
    ltb-false (shot_of l).levels r (sym (ap (λ (b : Bool). b && bad_level r (shot_of l).levels) p) ∙ a)
