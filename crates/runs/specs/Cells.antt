-- Runs of numbers that are written in a buffer.
--
--   Written g s n l l'   == l' is l with g 0 .. g (n − 1) from place s on
--   Pairs F G a b n l l' == l' is l with F 0 .. F (n − 1) from place a on and G 0 .. G (n − 1) from place b on
--
-- Assumes nothing: these are definitions.
use Rattle.std.specs.Prelude.{◌≡◌, List, ℕ, ◌+◌, ◌<◌, ◌≤◌, ℤ, length}
use Rattle.line.specs.Cells.{cell}

pub record Written (g : ℕ → ℤ) (s n : ℕ) (l l' : List ℤ) : Type 0 where
  pub size : length l' ≡ length l
  pub on : (k : ℕ) → k < n → cell l' (s + k) ≡ g k
  pub below : (i : ℕ) → i < s → cell l' i ≡ cell l i
  pub above : (i : ℕ) → s + n ≤ i → cell l' i ≡ cell l i

pub record Pairs (F G : ℕ → ℤ) (a b n : ℕ) (l l' : List ℤ) : Type 0 where
  pub size : length l' ≡ length l
  pub first : (k : ℕ) → k < n → cell l' (a + k) ≡ F k
  pub second : (k : ℕ) → k < n → cell l' (b + k) ≡ G k
  pub off : (i : ℕ) → ((k : ℕ) → k < n → i ≡ a + k → ⊥) → ((k : ℕ) → k < n → i ≡ b + k → ⊥) → cell l' i ≡ cell l i
