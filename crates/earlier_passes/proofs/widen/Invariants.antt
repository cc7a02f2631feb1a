-- `widen` copies samples to a plane. The loop's invariant: the first i are copied. Assumes nothing.
use Prim.Native.Nat.{◌≤◌}
use lib.IntN.{pos}
use lib.ListN.{length, get_or}
use Rattle.earlier_passes.specs.Written.{Written}
use Rattle.earlier_passes.proofs.widen.Given as goal

abbrev pub invariant-loop-i : goal.invariant-loop-i
invariant-loop-i l = Written (λ k. pos (get_or l.samples k 0)) 0 l.i l.initial.plane l.plane × (l.i ≤ length l.initial.plane)
