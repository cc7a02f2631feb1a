-- `line_mask::join_marks` joins n marks. The loop's invariant: k marks are joined. Assumes nothing.
use Prim.Native.Nat.{◌≤◌}
use Rattle.line_mask.specs.Marks.{Joined}
use Rattle.line_mask.proofs.join_marks.Given as goal

abbrev pub invariant-loop-k : goal.invariant-loop-k
invariant-loop-k l = (l.k ≤ l.n) × Joined l.at l.from l.k l.initial.marks l.marks
