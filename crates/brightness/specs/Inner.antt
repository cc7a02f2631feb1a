-- What the pass over picture and region asks of them: what only inner contracts and proofs cite.
--
--   Sized W picture region == both have as many samples, in rows of W, as an accepted picture may have
--
-- Assumes nothing: this is a definition.
use Rattle.std.specs.Prelude.{◌≡◌, List, ℕ, ◌*◌, ◌<◌, ◌≤◌, length}

pub record Sized (W : ℕ) (picture region : List ℕ) : Type 0 where
  pub some : 0 < W
  pub width : W ≤ 4096
  pub most : length region ≤ 4096 * 4096
  pub rows : (h : ℕ) × (length region ≡ W * h)
  pub same : length picture ≡ length region
