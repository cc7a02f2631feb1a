-- `samples::show_all` brings each undone number into range. Assumes nothing.
use Prim.Native.Nat.{◌≤◌}
use lib.IntN.{pos}
use lib.ListN.{length, get_or}
use Rattle.refusal.proofs.Made.{Made}
use Rattle.samples.specs.Samples.{in_range}
use Rattle.samples.proofs.show_all.Given as goal

abbrev pub invariant-loop-i : goal.invariant-loop-i
invariant-loop-i l = (l.i ≤ length l.initial.shown) × Made 0 (λ k. in_range l.depth (get_or l.undone k (pos 0))) 0 l.i l.initial.shown l.shown
