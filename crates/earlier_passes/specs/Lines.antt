-- The transforms of c lines of 2M numbers side by side: the evens and odds of all lines in two strips, or their lows and highs.
--
--   line_numbers c e o j         == line j, with its evens in the strip e and its odds in the strip o
--   Samples n e o                == numbers that every kernel's forward transform takes within 32 bits: within 2^29
--   Coefficients n l h           == numbers that every kernel's way back takes within 32 bits: lows within 2^30, highs within 2^24
--   Forward k M c e o e' o'      == e' and o' are e and o with kernel k's lows and highs of each line in place of its evens and odds
--   Back k M c l h l' h'         == l' and h' are l and h with the evens and odds of each line in place of its lows and highs
--   Predicted s M c e o e' o'    == as Forward, with means, and differences less the amount of step s
--   Unpredicted s M c l h l' h'  == as Back, with the pairs of means l and differences h, the amount of step s added to these
--
-- Assumes nothing: these are definitions.
use Rattle.std.specs.Prelude.{List, ℕ, ◌^◌, ℤ, ◌+ℤ◌, ◌-ℤ◌}
use Rattle.kernel.specs.declared.Kernel.{Kernel}
use Rattle.line.specs.Cells.{Line, paired}
use Rattle.line.specs.Formulas.{first_of, second_of}
use Rattle.line.specs.Transform.{means, differences, low, high, undone_evens, undone_odds}
use Rattle.earlier_passes.specs.declared.runs.Step.{Step}
use Rattle.earlier_passes.specs.Strip.{lane, Small, Rows}
use Rattle.earlier_passes.specs.Lifting.{amount}

abbrev pub line_numbers : ℕ → List ℤ → List ℤ → ℕ → Line ℤ
line_numbers c e o j = paired (lane c e j) (lane c o j)

pub record Samples (n : ℕ) (e o : List ℤ) : Type 0 where
  pub evens : Small (2 ^ 29) n e
  pub odds : Small (2 ^ 29) n o

pub record Coefficients (n : ℕ) (l h : List ℤ) : Type 0 where
  pub lows : Small (2 ^ 30) n l
  pub highs : Small (2 ^ 24) n h

pub record Forward (k : Kernel) (M c : ℕ) (e o e' o' : List ℤ) : Type 0 where
  pub lows : Rows (λ n j. low k M M (line_numbers c e o j) n) c 0 M e e'
  pub highs : Rows (λ n j. high k M M (line_numbers c e o j) n) c 0 M o o'

pub record Back (k : Kernel) (M c : ℕ) (l h l' h' : List ℤ) : Type 0 where
  pub evens : Rows (λ n j. undone_evens k M M (lane c l j) (lane c h j) n) c 0 M l l'
  pub odds : Rows (λ n j. undone_odds k M M (lane c l j) (lane c h j) n) c 0 M h h'

pub record Predicted (s : Step) (M c : ℕ) (e o e' o' : List ℤ) : Type 0 where
  pub lows : Rows (λ n j. means M (line_numbers c e o j) n) c 0 M e e'
  pub highs : Rows (λ n j. differences (line_numbers c e o j) n -ℤ amount s M (means M (line_numbers c e o j)) n) c 0 M o o'

pub record Unpredicted (s : Step) (M c : ℕ) (l h l' h' : List ℤ) : Type 0 where
  pub evens : Rows (λ n j. first_of (lane c l j n) (lane c h j n +ℤ amount s M (lane c l j) n)) c 0 M l l'
  pub odds : Rows (λ n j. second_of (lane c l j n) (lane c h j n +ℤ amount s M (lane c l j) n)) c 0 M h h'
