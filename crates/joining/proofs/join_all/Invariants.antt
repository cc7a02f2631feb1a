-- `joining::join_all` joins each mark. The loop's invariant: i marks are joined. Assumes nothing.
use Prim.Native.Nat.{◌≤◌}
use lib.ListN.{length}
use Rattle.refusal.proofs.Made.{Made}
use Rattle.joining.specs.Join.{join_byte}
use Rattle.joining.proofs.join_all.Given as goal

abbrev pub invariant-loop-i : goal.invariant-loop-i
invariant-loop-i l = (l.i ≤ length l.initial.joined) × Made 0 (join_byte l.one l.other) 0 l.i l.initial.joined l.joined
