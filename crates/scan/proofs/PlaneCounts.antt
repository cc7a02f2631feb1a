-- The number of bit planes of a plane. Assumes nothing.
use mathlib.Core.Path.{◌≡◌}
use mathlib.Core.List.{List}
use Prim.Native.Nat.{ℕ, zero, suc, ◌+◌, ◌*◌, ◌-◌, ◌^◌, ◌<◌, ◌≤◌}
use native.Mathlib.Numerals.{add-one}
use native.Mathlib.Omega.{arith}
use lib.Dec.{leb}
use lib.IntN.{ℤ}
use lib.Pow.{pow_pos, pow_mono}
use borrow.Author.Tests.{le-leb, lt-leb}
use Rattle.line.specs.Cells.{total, count, cell}
use Rattle.line.proofs.Cells.{by_lt}
use Rattle.bitplane.specs.Inner.{PlaneCount}
use Rattle.scan.specs.Scan.{largest, digits, plane_count}
use Rattle.scan.proofs.Largest.{largest_each, largest_at}

-- k of the first n powers of 2 are not above m: these are the lowest k
record Powers (n m k : ℕ) : Type 0 where
  most : k ≤ n
  above : k < n → m < 2 ^ k
  least : 0 < k → 2 ^ (k - 1) ≤ m

power_on : (n m k : ℕ) → Powers n m k → 2 ^ n ≤ m → Powers (suc n) m (k + 1)
power_on n m k p h =
    let e : k ≡ n = by_lt k n (λ lt. absurd (omega (arith, p.above lt, pow_mono {i = k} {j = n} (omega arith)))) (λ ge. omega (arith, p.most)) in
    let d : k + 1 - 1 ≡ n = omega arith in
    record { most = omega arith; above = λ g. absurd (omega arith); least = λ g. rw d h }

power_off : (n m k : ℕ) → Powers n m k → m < 2 ^ n → Powers (suc n) m (k + 0)
power_off n m k p h =
    let e : k + 0 ≡ k = omega arith in
    rw e (record {
      most = omega (arith, p.most);
      above = λ g. by_lt k n p.above (λ ge. let d : k ≡ n = omega (arith, p.most) in rw d h);
      least = p.least;
    })

powers : (n m : ℕ) → Powers n m (count n (λ t. leb (2 ^ t) m))
unfolding count total
powers zero m = record { most = omega arith; above = λ h. absurd (omega arith); least = λ h. absurd (omega arith) }
powers (suc n) m = by_lt m (2 ^ n)
    (λ lt. rw (lt-leb (2 ^ n) m lt) (power_off n m (count n (λ t. leb (2 ^ t) m)) (powers n m) lt))
    (λ ge. rw (le-leb (2 ^ n) m ge) (power_on n m (count n (λ t. leb (2 ^ t) m)) (powers n m) ge))

-- ---- the digits of a number
module _ (m : ℕ) where
  pub digits_above : m < 2 ^ 32 → m < 2 ^ digits m
  unfolding digits
  digits_above h = by_lt (count 32 (λ t. leb (2 ^ t) m)) 32 (powers 32 m).above
      (λ ge. let e : count 32 (λ t. leb (2 ^ t) m) ≡ 32 = omega (arith, (powers 32 m).most) in rw e h)

  pub digits_least : 0 < digits m → 2 ^ (digits m - 1) ≤ m
  unfolding digits
  digits_least h = (powers 32 m).least h

  -- so many digits at most as the bound on the number has
  pub digits_most : (b : ℕ) → m < 2 ^ b → digits m ≤ b
  digits_most b h = by_lt b (digits m)
      (λ lt. absurd (omega (arith, digits_least (omega arith), pow_mono {i = b} {j = digits m - 1} (omega arith))))
      (λ ge. ge)

  -- the digits are one more than the largest power that is not above the number
  pub digits_power : (k : ℕ) → m < 2 ^ 32 → 2 ^ k ≤ m → m < 2 * 2 ^ k → k + 1 ≡ digits m
  digits_power k h low high =
      let more : k < digits m = by_lt k (digits m) (λ lt. lt) (λ ge. absurd (omega (arith, digits_above h, pow_mono {i = digits m} {j = k} ge))) in
      let most : digits m ≤ k + 1 = digits_most (k + 1) (rw (add-one k) (omega arith)) in
      omega arith

  pub digits_zero : m ≡ 0 → 0 ≡ digits m
  digits_zero e = let none : digits m ≤ 0 = digits_most 0 (omega arith) in omega arith

-- ---- a plane
module _ (l : List ℤ) where
  pub plane_count_lem : largest l < 2 ^ 32 → PlaneCount (cell l) (plane_count l)
  plane_count_lem h = record {
    each = λ i. omega (arith, largest_each l i, digits_above (largest l) h);
    least = λ g. let b = digits_least (largest l) g in let p = largest_at l (omega (arith, pow_pos (plane_count l - 1))) in (p.0, omega (arith, p.1));
  }

  pub plane_count_most : (b : ℕ) → largest l < 2 ^ b → plane_count l ≤ b
  plane_count_most b h = digits_most (largest l) b h
