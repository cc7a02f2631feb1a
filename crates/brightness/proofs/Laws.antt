-- The laws of brightness. Assumes nothing.
use mathlib.Core.Path.{◌≡◌, refl, ap, ◌∙◌}
use mathlib.Core.Logic.{◌≢◌}
use mathlib.Core.Bool.{Bool, true, false, ◌||◌}
use mathlib.Core.List.{List}
use Prim.Native.Nat.{ℕ, ◌+◌, ◌*◌, ◌/◌, ◌%◌, ◌<◌}
use native.Mathlib.Nat.{div-add-mod', mod-lt}
use native.Mathlib.Omega.{arith}
use borrow.Author.Tests.{eq-eqb, eqb-true, eqb-false, ltb-true, ne_eqb, not-false}
use lib.ListN.{length, get_or}
use Rattle.line.specs.Cells.{choose, total, count}
use Rattle.line.specs.Mask.{marked}
use Rattle.line.proofs.Cells.{by_bool}
use Rattle.line.proofs.Counts.{total_same, total_sum}
use Rattle.line.proofs.Lists.{listed-length, listed_cell}
use Rattle.line.proofs.Marks.{byte_most, any_elim}
use Rattle.refusal.specs.Numbers.{first, accepted}
use Rattle.refusal.specs.Tests.{bad_size, bad_length, bad_mark}
use Rattle.refusal.proofs.Ordered.{passes_test}
use Rattle.refusal.proofs.Passed.{not_any}
use Rattle.joining.specs.Join.{join_byte}
use Rattle.joining.specs.Laws.{filled}
use Rattle.joining.proofs.Bytes.{mark_joined}
use Rattle.brightness.specs.Brightness.{has, number, sum, no_sample, brightness_tests, Numbers, measured, brightness_numbers}
use Rattle.brightness.specs.Laws.{Brightness}

-- ---- a call that is accepted
record Passed (W H : ℕ) (picture region : List ℕ) : Type 0 where
  size : bad_size W H ≡ false
  picture_size : bad_length W H (length picture) ≡ false
  region_size : length region ≡ W * H
  some : no_sample region ≡ false
  numbers : brightness_numbers W H picture region ≡ measured picture region

passed : (W H : ℕ) (picture region : List ℕ) → accepted (brightness_tests W H picture region) ≡ true → Passed W H picture region
unfolding brightness_numbers
passed W H picture region ok =
    let a = passes_test (bad_size W H) 3 _ ok in
    let b = passes_test (bad_length W H (length picture)) 4 _ a.1 in
    let c = passes_test (bad_length W H (length region)) 4 _ b.1 in
    let d = passes_test (bad_mark region) 8 _ c.1 in
    record {
      size = a.0;
      picture_size = b.0;
      region_size = eqb-true (length region) (W * H) (not-false _ c.0);
      some = (passes_test (no_sample region) 18 _ d.1).0;
      numbers = rw ok;
    }

-- ---- quotient and remainder
pub divided : (n s : ℕ) → (n ≡ 0 → ⊥) → (s / n * n + s % n ≡ s) × (s % n < n)
divided n s z = (omega (arith, div-add-mod' s n), mod-lt s (omega arith))

-- ---- pictures with the same samples in the region
kept_same : (b : Bool) (x y : ℕ) → (b ≡ true → x ≡ y) → choose b x 0 ≡ choose b y 0
kept_same true x y e = e refl
kept_same false x y e = refl

module _ (W H : ℕ) (picture picture' region : List ℕ) (long : length picture ≡ length picture')
    (same : (i : ℕ) → i < W * H → get_or region i 0 ≡ 1 → get_or picture i 0 ≡ get_or picture' i 0) where
  sums : length region ≡ W * H → sum picture region ≡ sum picture' region
  sums n = total_same (length region) _ _ (λ i h. kept_same (has region i) _ _ (λ e. same i (omega arith) (eqb-true (get_or region i 0) 1 e)))

  alike : brightness_numbers W H picture region ≡ brightness_numbers W H picture' region
  unfolding brightness_numbers
  alike = rw (← long) (by_bool (accepted (brightness_tests W H picture region))
      (λ ok. rw (ok, sums (passed W H picture region ok).region_size))
      (λ no. rw no))

-- ---- regions without a sample in common
kept_either : (a b : Bool) (x : ℕ) → (a ≡ true → b ≡ true → ⊥) → choose (a || b) x 0 ≡ choose a x 0 + choose b x 0
kept_either true true x apart = absurd (apart refl refl)
kept_either true false x apart = omega arith
kept_either false b x apart = omega arith

module _ (W H : ℕ) (picture a b : List ℕ) (p : Passed W H picture a) (q : Passed W H picture b) (apart : (i : ℕ) → get_or a i 0 ≡ 1 → get_or b i 0 ≢ 1) where
  abbrev both : List ℕ
  both = filled W H (join_byte a b)

  full : length both ≡ W * H
  full = listed-length (W * H) (join_byte a b)

  -- whatever is added over the region
  parted : (X : ℕ → ℕ) → total (length both) (λ i. choose (has both i) (X i) 0) ≡ total (length a) (λ i. choose (has a i) (X i) 0) + total (length b) (λ i. choose (has b i) (X i) 0)
  parted X = rw (full, p.region_size, q.region_size) (total_sum (W * H) _ _ _ (λ i h.
      ap (λ (m : Bool). choose m (X i) 0) (mark_joined W H a b p.region_size q.region_size i)
      ∙ kept_either (has a i) (has b i) (X i) (λ s t. apart i (eqb-true (get_or a i 0) 1 s) (eqb-true (get_or b i 0) 1 t))))

  numbers : number both ≡ number a + number b
  unfolding count
  numbers = parted (λ i. 1)

  binary : bad_mark both ≡ false
  unfolding bad_mark
  binary = not_any _ (λ t. any_elim (length both) _ t (λ i h e.
      absurd (omega (arith, ltb-true 1 (get_or both i 0) e, listed_cell (W * H) (join_byte a b) 0 i (omega (arith, full)), byte_most (marked (get_or a i 0) || marked (get_or b i 0))))))

  joined_ok : accepted (brightness_tests W H picture both) ≡ true
  unfolding first
  joined_ok =
      let some : no_sample both ≡ false = ne_eqb (number both) 0 (λ e. eqb-false (number a) 0 p.some (omega (arith, numbers))) in
      rw (p.size, p.picture_size, eq-eqb (length both) (W * H) full, binary, some) refl

  joined : let of : List ℕ → Numbers = brightness_numbers W H picture in
      (accepted (brightness_tests W H picture both) ≡ true) × ((of both).number ≡ (of a).number + (of b).number) × ((of both).sum ≡ (of a).sum + (of b).sum)
  joined =
      let r = passed W H picture both joined_ok in
      (joined_ok, rw (r.numbers, p.numbers, q.numbers) numbers, rw (r.numbers, p.numbers, q.numbers) (parted (λ i. get_or picture i 0)))

pub brightness : Brightness
brightness = record {
  division = λ W H picture region ok. let p = passed W H picture region ok in
      rw p.numbers (divided (number region) (sum picture region) (eqb-false (number region) 0 p.some));
  joined = λ W H picture a b ok fine apart. joined W H picture a b (passed W H picture a ok) (passed W H picture b fine) apart;
  alike = alike;
}
