-- A run of numbers that is written in a buffer.
--
--   Written g s n l l'   == l' is l with g 0 .. g (n − 1) from place s on
--
-- Assumes nothing: these are definitions.
use Rattle.std.specs.Prelude.{◌≡◌, List, ℕ, ◌+◌, ◌<◌, ◌≤◌, ℤ, length}
use Rattle.line.specs.Cells.{cell}

pub record Written (g : ℕ → ℤ) (s n : ℕ) (l l' : List ℤ) : Type 0 where
  pub size : length l' ≡ length l
  pub on : (k : ℕ) → k < n → cell l' (s + k) ≡ g k
  pub below : (i : ℕ) → i < s → cell l' i ≡ cell l i
  pub above : (i : ℕ) → s + n ≤ i → cell l' i ≡ cell l i
