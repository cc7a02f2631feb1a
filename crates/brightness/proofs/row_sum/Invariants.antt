-- `brightness::row_sum` adds the samples of a row that are in the region. Assumes nothing.
use Rattle.std.specs.Iterator.Adapters.{zip_first, zip_second}
use Rattle.std.specs.Slice.Iter.{iter_rest}
use Rattle.brightness.proofs.Rows.{Summed}
use Rattle.brightness.proofs.row_sum.Given as goal

abbrev pub invariant-loop-sample : goal.invariant-loop-sample
invariant-loop-sample l = (goal.iterator-loop-sample).can_next l.sample-iterator × (goal.iterator-loop-sample).is_finite l.sample-iterator
    × Summed l.samples l.bytes (iter_rest (zip_first l.sample-iterator)) (iter_rest (zip_second l.sample-iterator)) l.sum
