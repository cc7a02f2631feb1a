-- What one coefficient gives to a plane, as digits behind a number. Assumes nothing.
use mathlib.Core.Path.{◌≡◌, refl, ◌∙◌}
use mathlib.Core.Bool.{Bool, true, false}
use mathlib.Core.List.{[], ◌∷◌}
use Prim.Native.Nat.{ℕ, zero, suc, ◌+◌, ◌*◌, ◌/◌, ◌%◌, ◌^◌, ◌<◌, ◌≤◌}
use native.Mathlib.Omega.{arith}
use lib.Bits.{bit_and, bit_or, and_zero_r, and_mask, or_add_and, and_le_l, and_le_r}
use lib.Dec.{eqb}
use lib.IntN.{ℤ, pos, negsuc, nat_abs}
use lib.ListN.{length}
use lib.Signed.{lt_z}
use lib.Pow.{shr_mono}
use borrow.Author.Tests.{ne_eqb, le-ltb}
use Rattle.line.specs.Cells.{choose}
use Rattle.bitplane.specs.Bits.{sign}
use Rattle.bitplane.specs.Body.{sign_after, code}
use Rattle.bitplane.proofs.Bytes.{sign_binary}
use Rattle.writer.specs.Written.{extended, given}

-- ---- two numbers joined bit by bit
pub or_most : (a b : ℕ) → (a ≤ bit_or a b) × (b ≤ bit_or a b)
or_most a b = omega (arith, or_add_and a b, and_le_l a b, and_le_r a b)

-- ---- what is no larger than a number whose digits down to plane t are 0
pub not_begun : {a : ℕ} (t high : ℕ) → high / 2 ^ t ≡ 0 → a ≤ high → a / 2 ^ t ≡ 0
not_begun t high e h = omega (arith, shr_mono t h)

-- ---- a number that counts if its coefficient is a member
pub member_least : (a m : ℕ) (b : Bool) → m ≡ choose b 1 0 → a * m ≤ a
member_least a m true e = rw e (omega arith)
member_least a m false e = rw e (omega arith)

pub member_all : (a m : ℕ) {b : Bool} → m ≡ choose b 1 0 → b ≡ true → a * m ≡ a
member_all a m e o = let d : m ≡ 1 = e ∙ rw o refl in rw d (omega arith)

-- ---- tests as numbers
pub minus : (z : ℤ) → choose (lt_z z (pos 0)) 1 0 ≡ sign z
unfolding sign
minus (pos n) = rw (le-ltb n 0 (omega arith))
minus (negsuc n) = refl

-- 1 where the magnitude down to the plane says that this is the first 1
abbrev begins : ℕ → ℕ
begins h = choose (eqb h 1) 1 0

begins_not : (h : ℕ) → begins (suc (suc h)) ≡ 0
begins_not h = rw (ne_eqb (suc (suc h)) 1 (λ e. omega arith))

-- ---- what `gives` makes of the magnitude down to the plane, h, of a member (m is 1) whose sign bit is s
given_value : (h m s : ℕ) → m < 2 → s < 2 → bit_and h m + bit_and (begins h) m + bit_and s (bit_and (begins h) m) ≡ extended 0 (choose (eqb m 1) (h % 2 ∷ sign_after h s) [])
unfolding extended sign_after
given_value h zero s b d = rw (and_zero_r (begins h), and_zero_r s, and_zero_r h)
given_value zero (suc zero) s b d = rw (and_zero_r s)
given_value (suc zero) (suc zero) s b d = rw (and_mask s 1) (omega arith)
given_value (suc (suc h)) (suc zero) s b d = rw (begins_not h, and_zero_r s, and_mask (suc (suc h)) 1) (omega arith)
given_value h (suc (suc m)) s b d = absurd (omega arith)

-- ---- how many digits that is
given_many : (h m s : ℕ) → m < 2 → m + bit_and (begins h) m ≡ length (choose (eqb m 1) (h % 2 ∷ sign_after h s) [])
unfolding sign_after
given_many h zero s b = rw (and_zero_r (begins h))
given_many zero (suc zero) s b = refl
given_many (suc zero) (suc zero) s b = refl
given_many (suc (suc h)) (suc zero) s b = rw (begins_not h)
given_many h (suc (suc m)) s b = absurd (omega arith)

module _ (t : ℕ) (z : ℤ) (h a m : ℕ) (size : h ≡ nat_abs z / 2 ^ t) (first : a ≡ begins h) (bit : m < 2) where
  pub gives_is : (s : ℕ) → s ≡ sign z → bit_and h m + bit_and a m + bit_and s (bit_and a m) ≡ extended 0 (given t z m)
  unfolding code
  gives_is s e = rw (first, e, ← size) (given_value h m (sign z) bit (sign_binary z))

  pub width_is : m + bit_and a m ≡ length (given t z m)
  unfolding code
  width_is = rw (first, ← size) (given_many h m (sign z) bit)

-- ---- a code has one bit or two
after_most : (h s : ℕ) → length (sign_after h s) ≤ 1
unfolding sign_after
after_most zero s = omega arith
after_most (suc zero) s = omega arith
after_most (suc (suc h)) s = omega arith

pub code-length : (t : ℕ) (z : ℤ) → (0 < length (code t z)) × (length (code t z) ≤ 2)
unfolding code
code-length t z = (omega arith, omega (arith, after_most (nat_abs z / 2 ^ t) (sign z)))
