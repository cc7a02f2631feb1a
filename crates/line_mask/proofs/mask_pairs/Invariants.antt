-- `line_mask::mask_pairs` makes the lows' and highs' marks of kernels 0 to 2. The loop's invariant: the lows have the pairs within the reach k. Assumes nothing.
use mathlib.Core.Path.{◌≡◌}
use mathlib.Core.List.{List}
use Prim.Native.Nat.{ℕ, ◌≤◌}
use lib.ListN.{length}
use Rattle.line_mask.specs.Marks.{Reached}
use Rattle.line_mask.proofs.mask_pairs.Given as goal

abbrev pub invariant-loop-k : goal.invariant-loop-k
invariant-loop-k l = ((s : List ℕ) → Reached 0 l.a l.b l.lanes l.lows l.highs s l.initial.marks → Reached l.k l.a l.b l.lanes l.lows l.highs s l.marks) × (length l.marks ≡ length l.initial.marks) × (l.k ≤ l.reach)
