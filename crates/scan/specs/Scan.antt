-- The number of bit planes that a plane needs (docs/FORMAT.md, "Header").
--
--   largest l     == the largest magnitude of a plane, 0 of an empty one
--   digits m      == the number of binary digits of m, which is below 2^32; 0 has none
--   plane_count l == T: the number of binary digits of the largest magnitude, 0 for an all-zero plane
--
-- Assumes nothing: these are definitions.
use Rattle.std.specs.Prelude.{List, [], ◌∷◌, ℕ, ◌^◌, max, leb, ℤ, nat_abs}
use Rattle.line.specs.Cells.{count}

unfoldable pub largest : List ℤ → ℕ
largest [] = 0
largest (z ∷ l) = max (nat_abs z) (largest l)

unfoldable pub digits : ℕ → ℕ
digits m = count 32 (λ t. leb (2 ^ t) m)

abbrev pub plane_count : List ℤ → ℕ
plane_count l = digits (largest l)
