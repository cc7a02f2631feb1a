-- Lifting steps on a part of c lines, from the M numbers of the other part of each.
--
--   amount s M x n        == what step s moves a number n by, from the line x
--   movable s M           == how many rows it can move from M rows: a line of odd length has one low more than highs, which kernel 3 moves from its highs
--   taps_of s M u v t n   == where row n of the part at u begins, and the rows of the part at v that it is moved from; the border rule says which
--   moved_row s add M u v t l n j
--                         == number n of line j of the part at u, moved by the amount from line j of the part at v
--   Straight s M n r      == of the r rows from n on, the rows around each follow those around row n: it is one row, or none is near the border
--   EndToEnd t c r        == r rows of c numbers, t apart, lie end to end: there is one, or c is t
--   Fit s add M c d e u v t l
--                         == the moved numbers of the rows d up to e fit 32 bits
--   Lifted .. l l'        == l' is l with those numbers
--
-- Assumes nothing: these are definitions.
use Rattle.std.specs.Prelude.{◌≡◌, Bool, List, ℕ, ◌+◌, ◌*◌, ◌<◌, ◌≤◌, min, ℤ}
use Rattle.std.specs.Int.{w32}
use Rattle.std.proofs.Common.{SFits}
use Rattle.kernel.specs.declared.Kernel.TheVariants as kernel
use Rattle.line.specs.Cells.{Line}
use Rattle.line.specs.Transform.{inside, predict, update}
use Rattle.steps.specs.Moved.{moved}
use Rattle.runs.specs.Step.{Step, SPlusP, TT, High, Low}
use Rattle.runs.specs.Steps.{look_back, look_ahead}
use Rattle.runs.specs.declared.Taps.{Taps}
use Rattle.lifting.specs.Parts.{lane, Rows}

abbrev pub amount : Step → ℕ → Line ℤ → Line ℤ
amount SPlusP M x n = predict kernel.SPlusP M x n
amount TT M x n = predict kernel.TT M x n
amount High M x n = predict kernel.FiveThree M x n
amount Low M x n = update M x n

abbrev pub movable : Step → ℕ → ℕ
movable SPlusP M = M
movable TT M = M
movable High M = M
movable Low M = M + 1

abbrev pub moved_row : Step → Bool → ℕ → ℕ → ℕ → ℕ → List ℤ → ℕ → ℕ → ℤ
moved_row s add M u v t l n j = moved add (lane u t l j n) (amount s M (lane v t l j) n)

-- a step that looks one row far, or none, has no second row before and after
abbrev pub taps_of : Step → ℕ → ℕ → ℕ → ℕ → ℕ → Taps
taps_of s M u v t n = record {
  at = u + n * t;
  here = v + inside M n 0 * t;
  before2 = v + inside M n (look_back s) * t;
  before = v + inside M n (min 1 (look_back s)) * t;
  after = v + inside M (n + min 1 (look_ahead s)) 0 * t;
  after2 = v + inside M (n + look_ahead s) 0 * t;
}

pub record Straight (s : Step) (M n r : ℕ) : Type 0 where
  pub here : (i : ℕ) → i < r → inside M (n + i) 0 ≡ inside M n 0 + i
  pub before : (i d : ℕ) → i < r → d ≤ look_back s → inside M (n + i) d ≡ inside M n d + i
  pub after : (i d : ℕ) → i < r → d ≤ look_ahead s → inside M (n + i + d) 0 ≡ inside M (n + d) 0 + i

pub record EndToEnd (t c r : ℕ) : Type 0 where
  pub follow : (i : ℕ) → i < r → i * t ≡ i * c

pub record Fit (s : Step) (add : Bool) (M c d e u v t : ℕ) (l : List ℤ) : Type 0 where
  pub fits : (n j : ℕ) → d ≤ n → n < e → j < c → SFits w32 (moved_row s add M u v t l n j)

pub record Lifted (s : Step) (add : Bool) (M c d e u v t : ℕ) (l l' : List ℤ) : Type 0 where
  pub rows : Rows (moved_row s add M u v t l) u t c d e l l'
