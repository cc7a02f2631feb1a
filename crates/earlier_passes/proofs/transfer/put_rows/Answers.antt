use native.Mathlib.Omega.{arith}
use Rattle.earlier_passes.proofs.Transfers.{rows_put, moving_none, moving_room, moving_next, moving_row, moving_all, put}
use Rattle.earlier_passes.proofs.transfer.put_rows.Goals as goal

pub loop-n-preserved : goal.loop-n-preserved
loop-n-preserved c = moving_row c.loop-n.invariant c.loop-n-test.true c.copy.ensures

pub returns : goal.returns
returns c = put (moving_all c.loop-n.invariant c.loop-n-test.false)

pub loop-n-init : goal.loop-n-init
loop-n-init c = moving_none (rows_put c.requires.in_buffer c.requires.lanes_in_bounds)

pub overflow_mul-n-in-loop-n : goal.overflow_mul-n-in-loop-n
overflow_mul-n-in-loop-n c = omega (arith, moving_next c.loop-n.invariant c.loop-n-test.true)

pub overflow_add-start : goal.overflow_add-start
overflow_add-start c = omega (arith, moving_next c.loop-n.invariant c.loop-n-test.true)

pub copy-requires : goal.copy-requires
copy-requires c = moving_room c.loop-n.invariant c.loop-n-test.true
