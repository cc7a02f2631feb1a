-- The coefficients of a class as a list, one behind the other: coefficient i has as many before it as there are members before i.
--
--   Collected on Z n D m == D holds those of the first n coefficients of Z that are of the class, m of them, one behind the other
--   Listed mask c n m    == what collecting class c of n coefficients needs: a class, a mask of that size, at most 2^24 coefficients, a list of m with room for all its members
--   Kept on Y Z          == the coefficients of Z that are not of the class are those of Y
--
-- Assumes nothing: these are definitions.
use Rattle.std.specs.Prelude.{◌≡◌, Bool, true, false, List, ℕ, ◌<◌, ◌≤◌, ℤ, length}
use Rattle.line.specs.Cells.{count}
use Rattle.bitplane.specs.Body.{class}

pub record Collected (on : ℕ → Bool) (Z : ℕ → ℤ) (n : ℕ) (D : ℕ → ℤ) (m : ℕ) : Type 0 where
  pub many : m ≡ count n on
  pub each : (i : ℕ) → i < n → on i ≡ true → D (count i on) ≡ Z i

pub record Listed (mask : List ℕ) (c n m : ℕ) : Type 0 where
  pub known : c < 2
  pub over : length mask ≡ n
  pub size : n ≤ 16777216
  pub room : count n (class mask c) ≤ m

abbrev pub Kept : (ℕ → Bool) → (ℕ → ℤ) → (ℕ → ℤ) → Type 0
Kept on Y Z = (i : ℕ) → on i ≡ false → Z i ≡ Y i
