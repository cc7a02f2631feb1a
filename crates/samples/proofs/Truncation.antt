-- Truncation: a marked coefficient stays, and a truncated plane is accepted. Assumes nothing.
use mathlib.Core.Path.{◌≡◌, refl}
use mathlib.Core.Bool.{Bool, true, false}
use Prim.Native.Nat.{ℕ, zero, suc, ◌*◌, ◌/◌, ◌^◌, ◌<◌, ◌≤◌}
use native.Mathlib.Nat.{div-mul-le_self}
use native.Mathlib.Omega.{arith}
use lib.IntN.{ℤ, pos, negsuc, neg_ℤ, nat_abs}
use Rattle.bitplane.specs.Bits.{sign, signed, dropped}
use Rattle.samples.specs.Samples.{truncated}

pub truncated_marked : (q : ℕ) (z : ℤ) → truncated q true z ≡ z
truncated_marked q z = refl

minus_abs : (n : ℕ) → nat_abs (neg_ℤ (pos n)) ≡ n
minus_abs zero = refl
minus_abs (suc n) = refl

-- a magnitude only falls
dropped-le : (q : ℕ) (z : ℤ) → nat_abs (dropped q z) ≤ nat_abs z
unfolding dropped sign signed
dropped-le q (pos a) = div-mul-le_self a (2 ^ q)
dropped-le q (negsuc a) = rw (minus_abs (suc a / 2 ^ q * 2 ^ q)) (div-mul-le_self (suc a) (2 ^ q))

pub truncated_accepted : (q : ℕ) (m : Bool) (z : ℤ) → nat_abs z < 2 ^ 22 → nat_abs (truncated q m z) < 2 ^ 22
truncated_accepted q true z h = h
truncated_accepted q false z h = omega (arith, dropped-le q z)
