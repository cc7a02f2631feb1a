-- `interface::wide` widens rectangle numbers. Assumes nothing.
use Prim.Native.Nat.{◌≤◌}
use mathlib.Core.Path.{◌≡◌}
use lib.ListN.{length, get_or}
use Rattle.refusal.proofs.Made.{Made}
use Rattle.interface.proofs.wide.Given as goal

abbrev pub invariant-loop-i : goal.invariant-loop-i
invariant-loop-i l = (l.i ≤ 128) × (length l.initial.value-items ≡ 128) × Made 0 (λ k. get_or l.numbers k 0) 0 l.i l.initial.value-items l.value-items
