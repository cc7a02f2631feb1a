-- Where the coefficients of a class lie: one bit, a flag, for each 64 coefficients. A flag of 0 says that none of them is of the class;
-- a flag of 1 says nothing.
--
--   Flagged on i r   == r is a flag for the 64 coefficients from i on
--   Held on i word   == the bits of the word, the highest first, are flags for 64 times 64 coefficients from i on
--   Indexed on words == the words hold flags for all coefficients, 4,096 in each
--
-- Assumes nothing: these are definitions.
use Rattle.std.specs.Prelude.{◌≡◌, Bool, true, List, ℕ, ◌+◌, ◌-◌, ◌*◌, ◌/◌, ◌<◌, get_or}
use Rattle.bitplane.specs.Bits.{bit_of}

pub record Flagged (on : ℕ → Bool) (i r : ℕ) : Type 0 where
  pub bit : r < 2
  pub each : (k : ℕ) → k < 64 → on (i + k) ≡ true → r ≡ 1

pub record Held (on : ℕ → Bool) (i word : ℕ) : Type 0 where
  pub each : (k : ℕ) → k < 4096 → on (i + k) ≡ true → bit_of (63 - k / 64) word ≡ 1

pub record Indexed (on : ℕ → Bool) (words : List ℕ) : Type 0 where
  pub each : (k : ℕ) → Held on (4096 * k) (get_or words k 0)
