-- What a sample and a coefficient become, from the parts and the magnitude of the number. Assumes nothing.
use mathlib.Core.Path.{◌≡◌, refl}
use Prim.Native.Nat.{ℕ, ◌*◌, ◌-◌, ◌/◌, ◌^◌, ◌<◌, ◌≤◌, min}
use native.Mathlib.Omega.{arith}
use lib.IntN.{ℤ, pos, negsuc, ◌-ℤ◌, nat_abs}
use Rattle.whole.specs.Within.{up, dn}
use Rattle.whole.proofs.Linear.{lin}
use Rattle.bitplane.specs.Bits.{sign, signed, dropped}
use Rattle.samples.specs.Samples.{in_range}

pub in_range_parts : (D : ℕ) (z : ℤ) → min (up z) (2 ^ D - 1) ≡ in_range D z
unfolding in_range
in_range_parts D (pos a) = refl
in_range_parts D (negsuc a) = omega arith

abbrev pub kept : ℕ → ℤ → ℕ
kept q z = nat_abs z / 2 ^ q * 2 ^ q

pub dropped_above : (q : ℕ) (z : ℤ) → dn z ≤ up z → pos (kept q z) ≡ dropped q z
unfolding dropped sign signed
dropped_above q (pos a) h = refl
dropped_above q (negsuc a) h = absurd (omega arith)

pub dropped_below : (q : ℕ) (z : ℤ) → up z < dn z → pos 0 -ℤ pos (kept q z) ≡ dropped q z
unfolding dropped sign signed
dropped_below q (pos a) h = absurd (omega arith)
dropped_below q (negsuc a) h = simp lin (omega arith)
