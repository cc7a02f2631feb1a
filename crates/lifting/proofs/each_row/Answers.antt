use Prim.Native.Nat.{◌+◌}
use native.Mathlib.Omega.{arith}
use Rattle.lifting.proofs.Rows.{one_row}
use Rattle.lifting.proofs.Walks.{alike_one, takes_part, takes_more, makes_join}
use Rattle.lifting.proofs.each_row.Goals as goal

pub rows-requires : goal.rows-requires
rows-requires g c = let k = g.T.OnRows.stage in let a = c.args in let i = c.loop-n.invariant in let n = c.loop-n.n in record {
  r_nonzero = omega arith;
  end_to_end = one_row a.p.step a.p.lanes;
  alike = alike_one k a.p.lows n;
  takes = takes_part k a.undo a.p n a.e n (n + 1) c.loop-n.l (takes_more k a.undo a.p a.d n a.e a.l.now c.loop-n.l c.requires.takes i.0 i.1 i.2) (omega arith) (omega arith);
}

pub loop-n-preserved : goal.loop-n-preserved
loop-n-preserved g c = let k = g.T.OnRows.stage in let a = c.args in let i = c.loop-n.invariant in let n = c.loop-n.n in (
  omega arith,
  omega arith,
  makes_join k a.undo a.p a.d n (n + 1) a.l.now c.loop-n.l _ (takes_part k a.undo a.p a.d a.e a.d (n + 1) a.l.now c.requires.takes (omega arith) (omega arith)) i.0 (omega arith) i.2 c.rows.ensures,
)
