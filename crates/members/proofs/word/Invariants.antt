-- `members::word` gathers 64 flags. Assumes nothing.
use Prim.Native.Nat.{◌≤◌}
use Rattle.bitplane.specs.Body.{class}
use Rattle.members.proofs.Index.{Flags}
use Rattle.members.proofs.word.Given as goal

abbrev pub invariant-loop-j : goal.invariant-loop-j
invariant-loop-j l = (l.j ≤ 64) × Flags (class l.mask l.c) l.i l.j l.flags
