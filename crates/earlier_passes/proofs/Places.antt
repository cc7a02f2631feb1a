-- The places of a line's evens, odds, lows and highs. Assumes nothing.
use mathlib.Core.Path.{◌≡◌, sym, ap, ◌∙◌}
use mathlib.Core.Bool.{Bool, true, false}
use mathlib.Core.List.{List}
use Prim.Native.Nat.{ℕ, ◌+◌, ◌*◌, ◌<◌, ◌≤◌}
use native.Mathlib.Nat.{mul_assoc, mul_comm, add-mul, one-mul}
use native.Mathlib.Omega.{arith}
use lib.ListN.{length}
use Rattle.grid.specs.Buffer.{InBuffer}
use Rattle.grid.proofs.Passes.{row_of}
use Rattle.earlier_passes.specs.Passes.{part_step, part_at}

module _ (s t n j : ℕ) where
  pub even_place : s + n * (2 * t) + j ≡ s + 2 * n * t + j
  even_place = ap (λ (q : ℕ). s + q + j) (sym (mul_assoc n 2 t) ∙ ap (λ (q : ℕ). q * t) (mul_comm n 2))

  pub odd_place : s + t + n * (2 * t) + j ≡ s + (2 * n + 1) * t + j
  odd_place = omega (arith, even_place, add-mul (2 * n) 1 t, one-mul t)

  pub high_place : (m : ℕ) → s + m * t + n * t + j ≡ s + (m + n) * t + j
  high_place m = omega (arith, add-mul m n t)

-- numbers of different place in their lines are at different places
pub apart : (s t c n j n' j' : ℕ) → c ≤ t → j < c → j' < c → s + n * t + j ≡ s + n' * t + j' → n ≡ n'
apart s t c n j n' j' a h k e = row_of t n n' j j' (omega arith) (omega arith) (omega arith)

module _ {A : Type 0} {l : List A} {s t m c : ℕ} (i : InBuffer l s t (2 * m) c) where
  pub in_evens : InBuffer l s (2 * t) m c
  in_evens = record { some = i.some; apart = omega (arith, i.apart); place = λ n j h k. rw (even_place s t n j) (i.place (2 * n) j (omega arith) k) }

  pub in_odds : InBuffer l (s + t) (2 * t) m c
  in_odds = record { some = i.some; apart = omega (arith, i.apart); place = λ n j h k. rw (odd_place s t n j) (i.place (2 * n + 1) j (omega arith) k) }

  pub in_lows : InBuffer l s t m c
  in_lows = record { some = i.some; apart = i.apart; place = λ n j h k. i.place n j (omega arith) k }

  pub in_highs : InBuffer l (s + m * t) t m c
  in_highs = record { some = i.some; apart = i.apart; place = λ n j h k. rw (high_place s t n j m) (i.place (m + n) j (omega arith) k) }

  -- either way
  pub part_in : (p : Bool) → InBuffer l s (part_step p t) m c
  part_in true = in_evens
  part_in false = in_lows

  pub second_in : (p : Bool) → InBuffer l (s + part_at p t m) (part_step p t) m c
  second_in true = in_odds
  second_in false = in_highs

-- in a buffer as long
pub in_same : {A : Type 0} {l : List A} {s t m c : ℕ} (l' : List A) → InBuffer l s t m c → length l' ≡ length l → InBuffer l' s t m c
in_same l' i e = record { some = i.some; apart = i.apart; place = λ n j h k. rw e (i.place n j h k) }

-- the second number and the first high of the first line
pub one_step : {A : Type 0} (l : List A) (s t m c : ℕ) → InBuffer l s t (2 * m) c → 0 < m → s + t < length l
one_step l s t m c i some = omega (arith, i.place 1 0 (omega arith) i.some, one-mul t)

pub half_way : {A : Type 0} (l : List A) (s t m c : ℕ) → InBuffer l s t (2 * m) c → 0 < m → s + m * t < length l
half_way l s t m c i some = omega (arith, i.place m 0 (omega arith) i.some)
