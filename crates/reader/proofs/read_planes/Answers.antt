use mathlib.Core.Path.{◌≡◌}
use Prim.Native.Nat.{◌+◌, ◌-◌}
use native.Mathlib.Omega.{arith}
use Rattle.reader.proofs.Planes.{left_more, left_stop, left_done}
use Rattle.reader.proofs.read_planes.Goals as goal

pub returns-then-end-q : goal.returns-then-end-q
returns-then-end-q c = let e : c.loop-t.t - 1 + 1 ≡ c.loop-t.t = omega arith in rw e (left_stop _ _ _ (omega arith) c.loop-t.invariant c.read_pass-q.ensures (omega arith))

pub loop-t-preserved : goal.loop-t-preserved
loop-t-preserved c = left_more _ _ _ (omega arith) c.loop-t.invariant c.read_pass-q.ensures c.read_pass-q.auto.plane (omega arith)

pub returns : goal.returns
returns c = left_done _ _ _ (omega arith) c.loop-t.invariant
