-- The length of a body in closed form: T bits for each coefficient, and a sign for each that is not 0. Assumes nothing.
use mathlib.Core.Path.{◌≡◌, refl}
use mathlib.Core.Bool.{Bool, true, false}
use mathlib.Core.List.{[]}
use Prim.Native.Nat.{ℕ, zero, suc, ◌+◌, ◌*◌, ◌/◌, ◌^◌, ◌<◌}
use native.Mathlib.Omega.{arith}
use native.Mathlib.Nat.{div-eq_of_lt, div-one, suc-mul}
use lib.Dec.{ltb}
use lib.IntN.{ℤ, nat_abs}
use lib.ListN.{length, length-append}
use borrow.Author.Tests.{lt-ltb}
use Rattle.line.specs.Cells.{choose, total, count}
use Rattle.bitplane.specs.Bits.{sign}
use Rattle.bitplane.specs.Inner.{nonzero}
use Rattle.bitplane.specs.Body.{one_plane, planes, sign_after, code, pass_bits, body}
use Rattle.bitplane.proofs.Passes.{halved}

-- the coefficients of a class that have a 1 at plane t or above
abbrev begun : (ℕ → Bool) → (ℕ → ℤ) → ℕ → ℕ → Bool
begun on Z t i = choose (on i) (ltb 0 (nat_abs (Z i) / 2 ^ t)) false

-- a sign goes with the plane in which a coefficient begins
sign_length : (k s : ℕ) → length (sign_after k s) + choose (ltb 0 (k / 2)) 1 0 ≡ choose (ltb 0 k) 1 0
unfolding sign_after
sign_length zero s = refl
sign_length (suc zero) s = refl
sign_length (suc (suc k)) s = rw (lt-ltb 0 (suc (suc k) / 2) (omega arith), lt-ltb 0 (suc (suc k)) (omega arith)) refl

module _ (on : ℕ → Bool) (Z : ℕ → ℤ) where
  code-length : (t : ℕ) (z : ℤ) (c : Bool) → length (choose c (code t z) []) + choose (choose c (ltb 0 (nat_abs z / 2 ^ suc t)) false) 1 0 ≡ choose c 1 0 + choose (choose c (ltb 0 (nat_abs z / 2 ^ t)) false) 1 0
  unfolding code
  code-length t z true = rw (halved t (nat_abs z)) (omega (arith, sign_length (nat_abs z / 2 ^ t) (sign z)))
  code-length t z false = refl

  pass_length : (t n : ℕ) → length (pass_bits (one_plane on t) Z n) + count n (begun on Z (suc t)) ≡ count n on + count n (begun on Z t)
  unfolding pass_bits count total
  pass_length t zero = refl
  pass_length t (suc n) = rw length-append (omega (arith, pass_length t n, code-length t (Z n) (on n)))

  planes-length : (T n : ℕ) → length (body (planes on T) Z n) + count n (begun on Z T) ≡ T * count n on + count n (begun on Z 0)
  unfolding body planes
  planes-length zero n = omega arith
  planes-length (suc t) n = rw (length-append, suc-mul) (omega (arith, pass_length t n, planes-length t n))

  none_begun : (T n : ℕ) → ((i : ℕ) → nat_abs (Z i) < 2 ^ T) → count n (begun on Z T) ≡ 0
  unfolding count total
  none_begun T zero s = refl
  none_begun T (suc n) s = rw (div-eq_of_lt (s n), none_begun T n s) (flat (on n))
    where
      flat : (c : Bool) → 0 + choose {A = ℕ} (choose c false false) 1 0 ≡ 0
      flat true = refl
      flat false = refl

  not_zero : (n : ℕ) → count n (begun on Z 0) ≡ count n (nonzero on Z)
  unfolding count total
  not_zero zero = refl
  not_zero (suc n) = rw (div-one, not_zero n)

  pub class_length : (T n : ℕ) → ((i : ℕ) → nat_abs (Z i) < 2 ^ T) → length (body (planes on T) Z n) ≡ T * count n on + count n (nonzero on Z)
  class_length T n s = omega (arith, planes-length T n, none_begun T n s, not_zero n)
