-- `passes::pairs_in` transforms rows of samples and stores each where it ends, a pair at a time. The loop's invariant: the pairs from a up to n are
-- stored. Assumes nothing.
use Prim.Native.Nat.{◌≤◌}
use Rattle.passes.specs.Pairs.{PairsIn}
use Rattle.passes.proofs.pairs_in.Given as goal

abbrev pub invariant-loop-n : goal.invariant-loop-n
invariant-loop-n l = (l.a ≤ l.n) × (l.n ≤ l.b) × PairsIn l.kernel l.samples l.w l.h l.a l.n l.initial.l l.l
