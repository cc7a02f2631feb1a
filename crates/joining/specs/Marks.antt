-- What the loop over two buffers of marks asks of them: what only an inner contract and proofs cite.
--
--   Marks n l == l has n bytes, each 0 or 1
--
-- Assumes nothing: this is a definition.
use Rattle.std.specs.Prelude.{◌≡◌, List, ℕ, length}
use Rattle.picture_mask.specs.Areas.{Binary}

pub record Marks (n : ℕ) (l : List ℕ) : Type 0 where
  pub size : length l ≡ n
  pub marks : Binary l
