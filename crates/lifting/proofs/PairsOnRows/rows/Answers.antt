-- The pairs of a run of rows become means and differences, or pairs again. Assumes nothing.
use mathlib.Core.Bool.{true, false}
use native.Mathlib.Omega.{arith}
use Rattle.lifting.proofs.Stages.{pair_run, pairs_inside, pairs_apart, pairs_able}
use Rattle.lifting.proofs.PairsOnRows.rows.Goals as goal

pub overflow_mul-r : goal.overflow_mul-r
overflow_mul-r c = omega (arith, pairs_inside c.args.n c.args.r c.requires.takes.parts c.requires.end_to_end c.requires.r_nonzero)

pub run_pairs-requires : goal.run_pairs-requires
run_pairs-requires c = let a = c.args in let q = c.requires in let g = q.takes.parts in let able = rw c.if-undo.true at q.takes.pairable in
    rw (c.row_start-first.ensures, c.row_start-second.ensures) record {
      n_in_bounds = pairs_inside a.n a.r g q.end_to_end q.r_nonzero;
      apart = pairs_apart a.n a.r g q.end_to_end q.r_nonzero;
      by_index = pairs_able true a.n q.end_to_end able;
    }

pub overflow_mul-r-else-undo : goal.overflow_mul-r-else-undo
overflow_mul-r-else-undo c = omega (arith, pairs_inside c.args.n c.args.r c.requires.takes.parts c.requires.end_to_end c.requires.r_nonzero)

pub run_pairs-requires-else-undo : goal.run_pairs-requires-else-undo
run_pairs-requires-else-undo c = let a = c.args in let q = c.requires in let g = q.takes.parts in let able = rw c.if-undo.false at q.takes.pairable in
    rw (c.row_start-first.ensures, c.row_start-second.ensures) record {
      n_in_bounds = pairs_inside a.n a.r g q.end_to_end q.r_nonzero;
      apart = pairs_apart a.n a.r g q.end_to_end q.r_nonzero;
      by_index = pairs_able false a.n q.end_to_end able;
    }

pub returns-then-undo : goal.returns-then-undo
returns-then-undo c = let a = c.args in rw c.if-undo.true (pair_run true a.n a.r c.requires.end_to_end (rw (c.row_start-first.ensures, c.row_start-second.ensures) at c.run_pairs.ensures))

pub returns-else-undo : goal.returns-else-undo
returns-else-undo c = let a = c.args in rw c.if-undo.false (pair_run false a.n a.r c.requires.end_to_end (rw (c.row_start-first.ensures, c.row_start-second.ensures) at c.run_pairs-else-undo.ensures))
