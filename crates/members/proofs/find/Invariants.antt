-- `members::find` finds the flags of a class. Assumes nothing.
use Prim.Native.Nat.{◌≤◌}
use Rattle.bitplane.specs.Body.{class}
use Rattle.members.proofs.Index.{Words}
use Rattle.members.proofs.find.Given as goal

abbrev pub invariant-loop-k : goal.invariant-loop-k
invariant-loop-k l = (l.k ≤ l.n) × Words (class l.mask l.c) l.flags-items l.k
