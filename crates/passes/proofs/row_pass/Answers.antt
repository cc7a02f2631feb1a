use native.Mathlib.Omega.{arith}
use lib.IntN.{pos}
use Rattle.line.proofs.Local.{forward_local}
use Rattle.grid.proofs.Running.{rows_none, rows_more}
use Rattle.passes.proofs.Running.{area_same, row_in, row_size, row_takes}
use Rattle.passes.proofs.row_pass.Goals as goal

pub loop-y-init : goal.loop-y-init
loop-y-init c = let a = c.args in rows_none (pos 0) _ a.stride a.w a.h a.l.now a.q.now a.q.now

pub row-requires : goal.row-requires
row-requires c = let i = c.loop-y.invariant in let z = area_same c.requires.area i.same_l in record { w_nonzero = row_size c.loop-y.l z (omega (arith, c.requires.w_in_bounds, i.same_a)); in_buffer = row_in c.loop-y.l z c.loop-y.y c.loop-y-test.true; takes = row_takes c.requires.area i c.requires.by_index c.loop-y-test.true }

pub loop-y-preserved : goal.loop-y-preserved
loop-y-preserved c = let i = c.loop-y.invariant in rows_more (forward_local c.args.kernel) c.requires.area.wide i c.loop-y-test.true c.row.ensures c.row.auto.q c.row.auto.q
