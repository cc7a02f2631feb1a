-- Floor division of an `i32` by an unsigned division, as the code computes it: the number raised by 2 ^ 31, which is b times the divisor d, is
-- divided, and b is taken off. What each step asks, and what the whole gives, for every such divisor. Assumes nothing.
use mathlib.Core.Path.{◌≡◌, sym, ap, ◌∙◌}
use Prim.Native.Nat.{ℕ, ◌+◌, ◌*◌, ◌/◌, ◌<◌, ◌≤◌}
use native.Mathlib.Omega.{arith}
use native.Mathlib.Nat.{div-lt_iff_lt-mul}
use borrow.Author.Rules.{sfits_of}
use lib.Dec.{T}
use lib.IntN.{ℤ, pos, nat_abs, ◌+ℤ◌, ◌-ℤ◌}
use lib.Signed.{non_neg}
use mir.Syntax.{w32, w64}
use mir.Val.{Fits, SFits, to_z, of_z}
use mir.Facts.{to_z-of_z, to_z_pos}
use Rattle.whole.specs.Within.{up, dn}
use Rattle.whole.specs.Floor.{floor_div}
use Rattle.whole.proofs.Linear.{ι, ι_split, ι-pos, lin, add_parts, size, widen, above_non_neg, nat_abs_parts, in_one}
use Rattle.whole.proofs.Floored.{floor_raised, fits_floor}
use Rattle.whole.proofs.Run.{Ex, wide, lit, ◌⊕◌, Run, bits_of, gives}

abbrev pub raised : ℤ → Ex
raised x = wide x ⊕ lit 2147483648

-- the machine's dividend
abbrev pub dividend : ℤ → ℕ
dividend x = nat_abs (to_z w64 (bits_of w64 (raised x)))

less : (m b : ℕ) → pos m -ℤ pos b ≡ ι m b
less m b = ap (λ (z : ℤ). pos m -ℤ z) (ι-pos b) ∙ simp lin (omega arith)

module _ {x : ℤ} (f : SFits w32 x) where
  pub raise : Run w64 (raised x)
  raise = record { fit = ((f, widen f), tt, rw (ι_split x) (simp lin (omega (arith, size x)))) }

  above : dn (x +ℤ pos 2147483648) ≤ up (x +ℤ pos 2147483648)
  above = omega (arith, size x, (add_parts x (pos 2147483648)).balance)

  balance : up x + 2147483648 ≡ dividend x + dn x
  balance = rw (gives raise, nat_abs_parts (x +ℤ pos 2147483648)) (omega (arith, (add_parts x (pos 2147483648)).balance, in_one (x +ℤ pos 2147483648) above))

  below : dividend x < 4294967296
  below = omega (arith, size x, balance)

  pub asks_unsigned : T (non_neg (to_z w64 (bits_of w64 (raised x)))) × Fits w32 (dividend x)
  asks_unsigned = (rw (gives raise) (above_non_neg (x +ℤ pos 2147483648) above), record { fits = below })

  module _ (d b : ℕ) (e : b * d ≡ 2147483648) (two : 2 ≤ d) where
    small : dividend x / d < 2147483648
    small = (div-lt_iff_lt-mul {k = d} {x = dividend x} {y = 2147483648} (omega arith)).1 (omega (arith, below))

    pub asks_signed : SFits w32 (pos (dividend x / d))
    asks_signed = sfits_of small

    value : to_z w32 (dividend x / d) -ℤ pos b ≡ floor_div x d
    value = ap (λ (z : ℤ). z -ℤ pos b) (to_z_pos w32 small) ∙ less (dividend x / d) b ∙ sym (floor_raised x d (dividend x) b (omega arith) (omega (arith, balance)))

    pub asks_lowered : SFits w32 (to_z w32 (dividend x / d) -ℤ pos b)
    asks_lowered = rw value (fits_floor w32 x d f)

    pub gives_floor : to_z w32 (of_z w32 (to_z w32 (dividend x / d) -ℤ pos b)) ≡ floor_div x d
    gives_floor = to_z-of_z asks_lowered ∙ value
