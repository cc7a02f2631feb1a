-- Drawings that were tested: what only inner contracts and proofs cite.
--
--   Drawable J W H l n == rectangles and a buffer of n bytes that have passed their tests
--
-- Assumes nothing: these are definitions.
use Rattle.std.specs.Prelude.{◌≡◌, false, List, ℕ, ◌*◌, ◌<◌}
use Rattle.refusal.specs.Tests.{bad_size, bad_rectangles}

pub record Drawable (J W H : ℕ) (l : List ℕ) (n : ℕ) : Type 0 where
  pub levels : 0 < J
  pub size : bad_size W H ≡ false
  pub inside : bad_rectangles W H l ≡ false
  pub full : n ≡ W * H
