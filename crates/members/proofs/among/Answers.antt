use Prim.Native.Nat.{◌+◌}
use native.Mathlib.Omega.{arith}
use Rattle.line.proofs.Counts.{counted_none, counted_more, counted_all, counted_next}
use Rattle.members.proofs.Parts.{part_test}
use Rattle.members.proofs.among.Goals as goal

pub loop-m-init : goal.loop-m-init
loop-m-init c = counted_none

pub overflow_add-found : goal.overflow_add-found
overflow_add-found c = omega (arith, counted_next _ c.loop-m.invariant c.one.ensures)

pub loop-m-preserved : goal.loop-m-preserved
loop-m-preserved c = counted_more c.loop-m.invariant (omega arith) (rw (part_test c.args.mask.now c.args.c c.args.i (c.args.i + c.args.n) c.loop-m.m-index (omega arith) (omega arith)) at c.one.ensures)

pub returns : goal.returns
returns c = counted_all c.loop-m.invariant (omega arith)
