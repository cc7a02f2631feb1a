-- `passes::pair_in` transforms the rows of a pair of samples and stores each where it ends. Assumes nothing.
use native.Mathlib.Omega.{arith}
use Rattle.line.proofs.Cells.{low_left}
use Rattle.passes.proofs.Placing.{pair_in_both, pair_in_last}
use Rattle.passes.proofs.pair_in.Goals as goal

pub returns-then-n-highs : goal.returns-then-n-highs
returns-then-n-highs c = let a = c.args in pair_in_both a.kernel a.samples.now a.w a.h a.n c.requires.n_bound c.row_in.ensures c.if-n-highs.true (rw (low_left a.h) at c.row_in-then-n-highs.ensures)

pub returns-else-n-highs : goal.returns-else-n-highs
returns-else-n-highs c = let a = c.args in pair_in_last a.kernel a.samples.now a.w a.h a.n c.requires.n_bound c.row_in.ensures (omega arith)
