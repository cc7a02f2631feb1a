-- `coefficient::grow_all` is what 16 coefficients become. Assumes nothing.
use Rattle.coefficient.specs.Growth.{Grown}
use Rattle.coefficient.proofs.grow_all.Given as goal

abbrev pub invariant-loop-k : goal.invariant-loop-k
invariant-loop-k l = Grown l.t 0 l.k l.pairs l.initial.v-items l.v-items
