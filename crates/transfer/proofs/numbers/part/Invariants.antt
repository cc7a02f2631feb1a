-- `transfer::numbers::part` parts numbers into evens and odds. The loop's invariant: k of each are written. Assumes nothing.
use mathlib.Core.Path.{◌≡◌}
use Prim.Native.Nat.{◌+◌, ◌*◌, ◌/◌}
use lib.IntN.{ℤ, pos}
use lib.ListN.{get_or}
use Rattle.line.specs.Cells.{low_side}
use Rattle.transfer.proofs.Twofold.{Writing}
use Rattle.transfer.proofs.numbers.part.Given as goal

abbrev pub invariant-loop-k : goal.invariant-loop-k
invariant-loop-k g l = (number : _ → ℤ) → ((x : _) (z : ℤ) → g.T.Into.converts x z → z ≡ number x) → (o : _)
    → Writing (pos 0) (λ i. number (get_or l.src (l.from + 2 * i) o)) (λ i. number (get_or l.src (l.from + 2 * i + 1) o)) (λ i. l.a + i) (λ i. l.b + i) (low_side l.w) (l.w / 2) l.initial.dst l.dst l.k
