-- Windows of a body: bytes gathered, and the bits of a window. Assumes nothing.
use mathlib.Core.Path.{◌≡◌, refl, ◌∙◌}
use mathlib.Core.List.{List}
use Prim.Native.Nat.{ℕ, ◌+◌, ◌*◌, ◌-◌, ◌/◌, ◌%◌, ◌^◌, ◌<◌, ◌≤◌}
use native.Mathlib.Omega.{arith}
use native.Mathlib.Nat.{one-mul, mod-eq_of_lt}
use lib.ListN.{get_or}
use lib.Pow.{pow-lt}
use Rattle.bitplane.specs.Bits.{bit_at, gathered}
use Rattle.bitplane.proofs.Past.{bytes_binary}
use Rattle.bitplane.proofs.Bytes.{gathered_append, gathered_part, byte_bits}

pub one_shifted : (n : ℕ) → n < 64 → 1 * 2 ^ n % 2 ^ 64 ≡ 2 ^ n
one_shifted n h = rw one-mul (mod-eq_of_lt (pow-lt h))

-- ---- 8 bytes from byte k on, one behind the other
module _ (l : List ℕ) (k : ℕ) (small : (i : ℕ) → get_or l i 0 < 256) where
  byte_more : (j : ℕ) → gathered (bit_at l) (8 * k) (8 * j + 8) ≡ gathered (bit_at l) (8 * k) (8 * j) * 256 + get_or l (k + j) 0
  byte_more j = let f : 8 * k + 8 * j ≡ 8 * (k + j) = omega arith in
      gathered_append (bit_at l) (8 * k) (8 * j) 8 ∙ rw (f, byte_bits l (k + j) (small (k + j))) refl

  pub eight_bytes : gathered (bit_at l) (8 * k) 64 ≡ ((((((get_or l k 0 * 256 + get_or l (k + 1) 0) * 256 + get_or l (k + 2) 0) * 256 + get_or l (k + 3) 0) * 256 + get_or l (k + 4) 0) * 256 + get_or l (k + 5) 0) * 256 + get_or l (k + 6) 0) * 256 + get_or l (k + 7) 0
  eight_bytes = omega (arith, byte_bits l k (small k), byte_more 1, byte_more 2, byte_more 3, byte_more 4, byte_more 5, byte_more 6, byte_more 7)

-- ---- n bits of a window, o behind its first
pub window_digits : {x d : ℕ} (l : List ℕ) (k o n : ℕ) → x ≡ gathered (bit_at l) (8 * k) 64 → o + n ≤ 64 → d ≡ x / 2 ^ (64 - (o + n)) % 2 ^ n → d ≡ gathered (bit_at l) (8 * k + o) n
window_digits l k o n e h f = f ∙ rw e (gathered_part (bit_at l) (8 * k) o n (64 - (o + n)) 64 (bytes_binary l) (omega arith))
