-- `transfer::numbers::weave` weaves two runs of numbers. The loop's invariant: k of each are written. Assumes nothing.
use Prim.Native.Nat.{◌+◌, ◌*◌, ◌/◌}
use lib.IntN.{pos}
use lib.ListN.{get_or}
use Rattle.line.specs.Cells.{low_side}
use Rattle.transfer.proofs.Twofold.{Writing}
use Rattle.transfer.proofs.numbers.weave.Given as goal

abbrev pub invariant-loop-k : goal.invariant-loop-k
invariant-loop-k l = Writing (pos 0) (λ i. get_or l.src (l.a + i) (pos 0)) (λ i. get_or l.src (l.b + i) (pos 0)) (λ i. l.at + 2 * i) (λ i. l.at + 2 * i + 1) (low_side l.w) (l.w / 2) l.initial.dst l.dst l.k
