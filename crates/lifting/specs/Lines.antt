-- The stages of the kernels, on the two parts of a line.
--
--   firsts join A B       == the first that becomes of each pair of the parts A and B of a line
--   seconds join A B      == the second
--   pair_lows join K A B  == the first for K pairs, and the numbers of A behind them as they are
--   Pairable join .. l    == what makes them fit 32 bits, for the rows d up to e of the parts at a and b
--   RowsWithin r .. d e l == the numbers of rows d up to e of a part are within r
--   first_lows undo k K A B
--                         == the first step of kernel k on a line's parts A and B, of which B has K, or that step undone: the first part
--   first_highs undo k M A B
--                         == the second part, which kernel 3 moves by the M lows
--   second_lows undo k K A B
--                         == the second step, or that step undone: the first part, which kernel 3 moves by the K highs
--   second_highs undo k M A B
--                         == the second part, which kernels 1 and 2 move by the M lows
--   SecondTakes k .. d e l == what the second step takes, on rows d up to e: the part that it looks at, and those rows of the other
--   lows_of k M K A B     == kernel k's lows of the line with these evens, M of them, and odds, K of them
--   highs_of k M K A B    == its highs
--
-- Assumes nothing: these are definitions.
use Rattle.std.specs.Prelude.{Bool, not, List, ℕ, ◌^◌, ◌<◌, ◌≤◌, min, ltb, ℤ}
use Rattle.whole.specs.Within.{Within}
use Rattle.kernel.specs.declared.Kernel.{Kernel}
use Rattle.kernel.specs.declared.Kernel.TheVariants.{S, SPlusP, TT, FiveThree}
use Rattle.line.specs.Cells.{Line, choose, paired}
use Rattle.line.specs.Transform.{low, high}
use Rattle.steps.specs.Moved.{moved}
use Rattle.runs.specs.Pair.{pair_first, pair_second, PairFit}
use Rattle.runs.specs.Step as step
use Rattle.lifting.specs.Parts.{lane, Bounded}
use Rattle.lifting.specs.Steps.{amount}

abbrev pub firsts : Bool → Line ℤ → Line ℤ → Line ℤ
firsts join A B n = pair_first join (A n) (B n)

abbrev pub seconds : Bool → Line ℤ → Line ℤ → Line ℤ
seconds join A B n = pair_second join (A n) (B n)

unfoldable pub pair_lows : Bool → ℕ → Line ℤ → Line ℤ → Line ℤ
pair_lows join K A B n = choose (ltb n K) (firsts join A B n) (A n)

pub record Pairable (join : Bool) (a b t c d e : ℕ) (l : List ℤ) : Type 0 where
  pub each : (n j : ℕ) → d ≤ n → n < e → j < c → PairFit join (lane a t l j n) (lane b t l j n)

pub record RowsWithin (r a t c d e : ℕ) (l : List ℤ) : Type 0 where
  pub each : (n j : ℕ) → d ≤ n → n < e → j < c → Within r (lane a t l j n)

-- ---- forward is the first step and then the second, the way back the second undone and then the first
abbrev pub first_lows : Bool → Kernel → ℕ → Line ℤ → Line ℤ → Line ℤ
first_lows undo S K A B = pair_lows undo K A B
first_lows undo SPlusP K A B = pair_lows undo K A B
first_lows undo TT K A B = pair_lows undo K A B
first_lows undo FiveThree K A B = A

abbrev pub first_highs : Bool → Kernel → ℕ → Line ℤ → Line ℤ → Line ℤ
first_highs undo S M A B = seconds undo A B
first_highs undo SPlusP M A B = seconds undo A B
first_highs undo TT M A B = seconds undo A B
first_highs undo FiveThree M A B = λ n. moved undo (B n) (amount step.High M A n)

abbrev pub second_lows : Bool → Kernel → ℕ → Line ℤ → Line ℤ → Line ℤ
second_lows undo S K A B = A
second_lows undo SPlusP K A B = A
second_lows undo TT K A B = A
second_lows undo FiveThree K A B = λ n. moved (not undo) (A n) (amount step.Low K B n)

abbrev pub second_highs : Bool → Kernel → ℕ → Line ℤ → Line ℤ → Line ℤ
second_highs undo S M A B = B
second_highs undo SPlusP M A B = λ n. moved undo (B n) (amount step.SPlusP M A n)
second_highs undo TT M A B = λ n. moved undo (B n) (amount step.TT M A n)
second_highs undo FiveThree M A B = B

abbrev pub SecondTakes : Kernel → ℕ → ℕ → ℕ → ℕ → ℕ → ℕ → ℕ → ℕ → List ℤ → Type 0
SecondTakes S a b t p q c d e l = Unit
SecondTakes SPlusP a b t p q c d e l = Bounded (2 ^ 28) a t p c l × RowsWithin (2 ^ 29) b t c d (min e q) l
SecondTakes TT a b t p q c d e l = Bounded (2 ^ 28) a t p c l × RowsWithin (2 ^ 29) b t c d (min e q) l
SecondTakes FiveThree a b t p q c d e l = Bounded (2 ^ 29) b t q c l × RowsWithin (2 ^ 28) a t c d e l

abbrev pub lows_of : Kernel → ℕ → ℕ → Line ℤ → Line ℤ → Line ℤ
lows_of k M K A B = low k M K (paired A B)

abbrev pub highs_of : Kernel → ℕ → ℕ → Line ℤ → Line ℤ → Line ℤ
highs_of k M K A B = high k M K (paired A B)
