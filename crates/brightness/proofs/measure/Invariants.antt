-- `brightness::measure` finds what all rows hold. Assumes nothing.
use Rattle.std.specs.Iterator.Adapters.{zip_first, zip_second}
use Rattle.std.specs.Slice.Iter.{chunks_exact_rest, chunks_exact_size}
use Prim.Native.Nat.{ℕ, ◌*◌}
use mathlib.Core.Path.{◌≡◌}
use lib.ListN.{length}
use Rattle.brightness.proofs.Rows.{Passed}
use Rattle.brightness.proofs.measure.Given as goal

abbrev pub invariant-loop-samples : goal.invariant-loop-samples
invariant-loop-samples l = let p = zip_first l.samples-iterator in let r = zip_second l.samples-iterator in
    (goal.iterator-loop-samples).can_next l.samples-iterator × (goal.iterator-loop-samples).is_finite l.samples-iterator
    × (chunks_exact_size p ≡ l.w) × (chunks_exact_size r ≡ l.w) × ((h : ℕ) × (length (chunks_exact_rest r) ≡ l.w * h))
    × Passed l.picture l.region (chunks_exact_rest p) (chunks_exact_rest r) l.number l.sum
