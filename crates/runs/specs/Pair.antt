-- What becomes of a pair of numbers: its mean and its difference; or of a mean and a difference the pair again.
--
--   pair_first join x y  == the mean of the pair x, y; or the first of the pair of mean x and difference y
--   pair_second join x y == its difference; or the second of the pair
--   PairFit join x y     == what makes it fit 32 bits
--
-- Assumes nothing: these are definitions.
use Rattle.std.specs.Prelude.{Bool, true, false, ◌^◌, ℤ}
use Rattle.std.specs.Int.{w32}
use Rattle.std.proofs.Common.{SFits}
use Rattle.whole.specs.Within.{Within}
use Rattle.line.specs.Formulas.{mean, difference, first_of, second_of}

abbrev pub pair_first : Bool → ℤ → ℤ → ℤ
pair_first false x y = mean x y
pair_first true x y = first_of x y

abbrev pub pair_second : Bool → ℤ → ℤ → ℤ
pair_second false x y = difference x y
pair_second true x y = second_of x y

abbrev pub PairFit : Bool → ℤ → ℤ → Type 0
PairFit false x y = Within (2 ^ 29) x × Within (2 ^ 29) y
PairFit true x y = SFits w32 (first_of x y) × SFits w32 (second_of x y)
