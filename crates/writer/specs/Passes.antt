-- A pass as the code hands it on: a plane, its mask, a class, and which bit plane.
--
--   Sound s       == the mask has a byte for each coefficient, of which there are at most 2^24, the class is 0 or 1, and a magnitude has bit plane t
--   stretch s i n == the bits that the n coefficients from i on give to the pass
--   whole_pass s  == the bits of the pass
--   Each s i n found == the digits that each of the n coefficients from i on gives to the pass
--
-- Assumes nothing: these are definitions.
use Rattle.std.specs.Prelude.{List, [], ℕ, ◌+◌, ◌<◌, length, slice_index_or}
use Rattle.line.specs.Cells.{choose, cell}
use Rattle.bitplane.specs.Body.{class, one_plane, code, pass_bits}
use Rattle.writer.specs.declared.Pass.{Pass}
use Rattle.writer.specs.declared.Gathered.{Gathered}
use Rattle.writer.specs.Written.{Digits, PassReady, share}

pub record Sound (s : Pass) : Type 0 where
  pub ready : PassReady s.mask.now s.plane.now s.class
  pub depth : s.t < 32

abbrev pub stretch : Pass → ℕ → ℕ → List ℕ
stretch s i n = share s.mask.now s.t s.plane.now s.class i n

abbrev pub whole_pass : Pass → List ℕ
whole_pass s = pass_bits (one_plane (class s.mask.now s.class) s.t) (cell s.plane.now) (length s.plane.now)

abbrev pub gives_at : Pass → ℕ → List ℕ
gives_at s i = choose (class s.mask.now s.class i) (code s.t (cell s.plane.now i)) []

pub record Each (s : Pass) (i n : ℕ) (found : List Gathered) : Type 0 where
  pub digits : (k : ℕ) (d : Gathered) → k < n → Digits (gives_at s (i + k)) (slice_index_or found k d).number (slice_index_or found k d).count
