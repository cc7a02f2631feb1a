use native.Mathlib.Omega.{arith}
use Rattle.transfer.proofs.Strips.{row_fits, moved_none, moved_more, moved_all}
use Rattle.transfer.proofs.copy_rows.Goals as goal

pub loop-i-init : goal.loop-i-init
loop-i-init g c = λ o. moved_none

pub copy-requires : goal.copy-requires
copy-requires g c = row_fits c.requires c.loop-i-test.true c.loop-i.auto.dst

pub loop-i-preserved : goal.loop-i-preserved
loop-i-preserved g c = λ o. moved_more c.requires c.loop-i-test.true (c.loop-i.invariant o) (c.copy.ensures o)

pub returns : goal.returns
returns g c = λ o. moved_all (omega arith) (c.loop-i.invariant o)
