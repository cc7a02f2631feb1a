-- The parts of showing: what only inner contracts and proofs cite.
--
--   LevelShown f r l .. == the answer of showing the stream l at level r, and what the buffers then hold, where f is the number of the first test that
--                          holds, 0 if none does
--
-- Assumes nothing: these are definitions.
use Rattle.std.specs.Prelude.{List, ℕ, eqb, ℤ, pos, Result as Answer}
use Rattle.refusal.specs.declared.Refusal.{Refusal}
use Rattle.refusal.specs.Results.{Result}
use Rattle.decoder.specs.Inner.{Answered}
use Rattle.decoder.specs.declared.Reading.{Reading}
use Rattle.exactness.specs.Shown.{level_number_at, level_sample_at}

pub record LevelShown (f r : ℕ) (l : List ℕ) (plane plane' : List ℤ) (mask mask' : List ℕ) (undone undone' : List ℤ) (shown shown' : List ℕ) (a : Answer Reading Refusal) : Type 0 where
  pub answered : Answered f l plane plane' mask mask' a
  pub numbers : Result (pos 0) (eqb f 0) (level_number_at r l) undone undone'
  pub samples : Result 0 (eqb f 0) (level_sample_at r l) shown shown'
