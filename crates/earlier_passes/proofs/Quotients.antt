-- Division by the language's own, which rounds towards zero, beside division rounded towards minus infinity: the steps of a floor division at `i64`.
-- Assumes nothing.
use mathlib.Core.Path.{◌≡◌, refl, sym, ap, ◌∙◌}
use Prim.Native.Nat.{ℕ, zero, suc, ◌/◌, ◌<◌, ◌≤◌}
use native.Mathlib.Omega.{arith}
use native.Mathlib.Nat.{zero-div}
use lib.IntN.{ℤ, pos, negsuc, neg_ℤ, ◌+ℤ◌, ◌-ℤ◌, +ℤ_one, +ℤ-neg_ℤ_cancel}
use lib.Signed.{shr_z, mag_shr, quot_z}
use mir.Syntax.{Width, w64}
use mir.Val.{SFits}
use mir.ValLaws.{sfits_le}
use Rattle.whole.specs.Within.{up, dn}
use Rattle.whole.specs.Floor.{floor_div}
use Rattle.whole.proofs.Linear.{ι_split, lin, size}

pub floor_shift : (z : ℤ) (d : ℕ) → shr_z z d ≡ floor_div z d
unfolding floor_div
floor_shift (pos a) d = refl
floor_shift (negsuc a) d = refl

pub fits_shift : (w : Width) (z : ℤ) (d : ℕ) → SFits w z → SFits w (shr_z z d)
fits_shift w z d f = sfits_le (mag_shr z d) f

pub fits_floor : (w : Width) (z : ℤ) (d : ℕ) → SFits w z → SFits w (floor_div z d)
fits_floor w z d f = rw (← floor_shift z d) (fits_shift w z d f)

-- the language's own division, which rounds towards zero
pub quot_up : (x : ℤ) (d : ℕ) → dn x ≤ up x → quot_z x (pos d) ≡ floor_div x d
unfolding floor_div
quot_up (pos a) d h = refl
quot_up (negsuc a) d h = absurd (omega arith)

pub quot_down : (x : ℤ) (d : ℕ) → up x < dn x → quot_z (x +ℤ pos 1) (pos d) ≡ floor_div x d +ℤ pos 1
unfolding floor_div
quot_down (pos a) d h = absurd (omega arith)
quot_down (negsuc a) d h = ap (λ (z : ℤ). quot_z z (pos d)) one_up ∙ down a ∙ sym (next (a / d))
  where
    next : (n : ℕ) → negsuc n +ℤ pos 1 ≡ neg_ℤ (pos n)
    next zero = +ℤ_one (negsuc zero)
    next (suc n) = +ℤ_one (negsuc (suc n))

    one_up : negsuc a +ℤ pos 1 ≡ neg_ℤ (pos a)
    one_up = next a

    down : (n : ℕ) → quot_z (neg_ℤ (pos n)) (pos d) ≡ neg_ℤ (pos (n / d))
    down zero = ap pos (zero-div d) ∙ sym (ap (λ (m : ℕ). neg_ℤ (pos m)) (zero-div d))
    down (suc n) = refl

-- ---- the steps of a floor division by the language's own: of a number below 0, one more is divided, and one is taken off
module _ (x : ℤ) (below : up x < dn x) (f : SFits w64 x) where
  pub fits_next : SFits w64 (x +ℤ pos 1)
  fits_next = rw (ι_split x) (simp lin (omega (arith, size x)))

floor_below : (x : ℤ) (d : ℕ) → up x < dn x → up (floor_div x d) < dn (floor_div x d)
unfolding floor_div
floor_below (pos a) d h = absurd (omega arith)
floor_below (negsuc a) d h = omega arith

module _ (d : ℕ) (x : ℤ) (below : up x < dn x) (f : SFits w64 x) where
  pub fits_quot : SFits w64 (quot_z (x +ℤ pos 1) (pos d))
  fits_quot = rw (quot_down x d below) (fits_next (floor_div x d) (floor_below x d below) (fits_floor w64 x d f))

  pub down_quot : quot_z (x +ℤ pos 1) (pos d) -ℤ pos 1 ≡ floor_div x d
  down_quot = rw (quot_down x d below) (+ℤ-neg_ℤ_cancel (floor_div x d) (pos 1))

  pub fits_down : SFits w64 (quot_z (x +ℤ pos 1) (pos d) -ℤ pos 1)
  fits_down = rw down_quot (fits_floor w64 x d f)
