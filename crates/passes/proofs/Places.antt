-- The places of a line's evens, odds, lows and highs. Assumes nothing.
use mathlib.Core.Path.{◌≡◌, sym, ap, ◌∙◌}
use Prim.Native.Nat.{ℕ, ◌+◌, ◌*◌}
use native.Mathlib.Nat.{mul_assoc, mul_comm, add-mul, one-mul}
use native.Mathlib.Omega.{arith}

module _ (s t n j : ℕ) where
  pub even_place : s + n * (2 * t) + j ≡ s + 2 * n * t + j
  even_place = ap (λ (q : ℕ). s + q + j) (sym (mul_assoc n 2 t) ∙ ap (λ (q : ℕ). q * t) (mul_comm n 2))

  pub odd_place : s + t + n * (2 * t) + j ≡ s + (2 * n + 1) * t + j
  odd_place = omega (arith, even_place, add-mul (2 * n) 1 t, one-mul t)

  pub high_place : (m : ℕ) → s + m * t + n * t + j ≡ s + (m + n) * t + j
  high_place m = omega (arith, add-mul m n t)
