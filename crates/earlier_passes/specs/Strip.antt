-- Strips: c lines side by side in one buffer, number n of line j at n · c + j. A line alone is a strip of one.
--
--   lane c l j         == line j of the strip
--   Small r n l        == the first n numbers are within r
--   Strips m c e o     == e and o have room for strips of c lines of m cells, m above 0 and their count below 2^32
--   Rows F c a b l l'  == l' is the strip l with F n j in line j, for n from a up to b
--
-- Assumes nothing: these are definitions.
use Rattle.std.specs.Prelude.{◌≡◌, List, ℕ, ◌+◌, ◌*◌, ◌^◌, ◌<◌, ◌≤◌, ℤ, length}
use Rattle.whole.specs.Within.{Within}
use Rattle.line.specs.Cells.{Line, cell}

abbrev pub lane : ℕ → List ℤ → ℕ → Line ℤ
lane c l j n = cell l (n * c + j)

pub record Small (r n : ℕ) (l : List ℤ) : Type 0 where
  pub each : (i : ℕ) → i < n → Within r (cell l i)

pub record Strips {A : Type 0} (m c : ℕ) (e o : List A) : Type 0 where
  pub some : 0 < m
  pub few : m < 2 ^ 32
  pub small : m * c < 2 ^ 32
  pub evens : m * c ≤ length e
  pub odds : m * c ≤ length o

pub record Rows (F : ℕ → ℕ → ℤ) (c a b : ℕ) (l l' : List ℤ) : Type 0 where
  pub size : length l' ≡ length l
  pub on : (n j : ℕ) → a ≤ n → n < b → j < c → cell l' (n * c + j) ≡ F n j
  pub below : (i : ℕ) → i < a * c → cell l' i ≡ cell l i
  pub above : (i : ℕ) → b * c ≤ i → cell l' i ≡ cell l i
