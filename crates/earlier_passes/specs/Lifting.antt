-- Lifting steps on strips of c lines of M numbers.
--
--   amount s M x n        == what step s moves a number n by, from the line x
--   moved_row s add .. n j == number n of line j of the strip t, moved by the amount from line j of the strip x
--   step_reach s          == how far from n step s looks
--   taps_of s M c n       == where row n and the rows around it begin; the border rule says which rows those are
--   Straight s M n r      == of the r rows from n on, the rows around each follow those around row n: it is one row, or none is near the border
--   Fit s add M c a b t x == the moved numbers of the rows a up to b fit 32 bits
--   Lifted .. t x t'      == t' is t with those numbers
--
-- Assumes nothing: these are definitions.
use Rattle.std.specs.Prelude.{◌≡◌, Bool, List, ℕ, ◌+◌, ◌*◌, ◌<◌, ◌≤◌, ℤ}
use Rattle.std.specs.Int.{w32}
use Rattle.std.proofs.Common.{SFits}
use Rattle.kernel.specs.declared.Kernel.TheVariants as kernel
use Rattle.kernel.specs.Kernels.{reach}
use Rattle.line.specs.Cells.{Line}
use Rattle.line.specs.Transform.{inside, predict, update}
use Rattle.earlier_passes.specs.Moved.{moved}
use Rattle.earlier_passes.specs.declared.runs.Step.{Step}
use Rattle.earlier_passes.specs.declared.runs.Step.TheVariants.{SPlusP, TT, High, Low}
use Rattle.earlier_passes.specs.declared.runs.Taps.{Taps}
use Rattle.earlier_passes.specs.Strip.{lane, Rows}

abbrev pub amount : Step → ℕ → Line ℤ → Line ℤ
amount SPlusP M x n = predict kernel.SPlusP M x n
amount TT M x n = predict kernel.TT M x n
amount High M x n = predict kernel.FiveThree M x n
amount Low M x n = update M x n

abbrev pub step_reach : Step → ℕ
step_reach SPlusP = reach kernel.SPlusP
step_reach TT = reach kernel.TT
step_reach High = reach kernel.FiveThree
step_reach Low = reach kernel.FiveThree

abbrev pub moved_row : Step → Bool → ℕ → ℕ → List ℤ → List ℤ → ℕ → ℕ → ℤ
moved_row s add M c t x n j = moved add (lane c t j n) (amount s M (lane c x j) n)

-- a step that looks one row far has no second row before and after
abbrev pub taps_of : Step → ℕ → ℕ → ℕ → Taps
taps_of s M c n = record {
  here = n * c;
  before2 = inside M n (step_reach s) * c;
  before = inside M n 1 * c;
  after = inside M (n + 1) 0 * c;
  after2 = inside M (n + step_reach s) 0 * c;
}

pub record Straight (s : Step) (M n r : ℕ) : Type 0 where
  pub before : (i d : ℕ) → i < r → d ≤ step_reach s → inside M (n + i) d ≡ inside M n d + i
  pub after : (i d : ℕ) → i < r → d ≤ step_reach s → inside M (n + i + d) 0 ≡ inside M (n + d) 0 + i

pub record Fit (s : Step) (add : Bool) (M c a b : ℕ) (t x : List ℤ) : Type 0 where
  pub fits : (n j : ℕ) → a ≤ n → n < b → j < c → SFits w32 (moved_row s add M c t x n j)

pub record Lifted (s : Step) (add : Bool) (M c a b : ℕ) (t x t' : List ℤ) : Type 0 where
  pub rows : Rows (moved_row s add M c t x) c a b t t'
