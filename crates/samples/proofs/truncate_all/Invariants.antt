-- `samples::truncate_all` truncates each coefficient. Assumes nothing.
use Prim.Native.Nat.{◌≤◌}
use lib.IntN.{pos}
use lib.ListN.{length, get_or}
use Rattle.line.specs.Mask.{marked}
use Rattle.refusal.proofs.Made.{Made}
use Rattle.samples.specs.Samples.{truncated}
use Rattle.samples.proofs.truncate_all.Given as goal

abbrev pub invariant-loop-i : goal.invariant-loop-i
invariant-loop-i l = (l.i ≤ length l.initial.plane) × Made (pos 0) (λ k. truncated l.q (marked (get_or l.mask k 0)) (get_or l.initial.plane k (pos 0))) 0 l.i l.initial.plane l.plane
