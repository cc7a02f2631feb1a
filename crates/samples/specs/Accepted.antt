-- A plane of accepted coefficients.
--
--   Accepted l == each magnitude is below 2^22
--
-- Assumes nothing: this is a definition.
use Rattle.std.specs.Prelude.{List, ℕ, ◌<◌, ◌^◌, ℤ, pos, nat_abs, length, get_or}

pub record Accepted (l : List ℤ) : Type 0 where
  pub each : (i : ℕ) → i < length l → nat_abs (get_or l i (pos 0)) < 2 ^ 22
