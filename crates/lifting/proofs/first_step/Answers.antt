-- `lifting::first_step` does the first step of a kernel on some rows, or undoes it. Assumes nothing.
use native.Mathlib.Omega.{arith}
use Rattle.runs.specs.Step.{High}
use Rattle.lifting.proofs.Rows.{parts_fewer, within_some}
use Rattle.lifting.proofs.Lifts.{lift_some}
use Rattle.lifting.proofs.Stages.{pair_able, pairs_some, first_pairs, rows_second}
use Rattle.lifting.proofs.Walks.{moves_highs}
use Rattle.lifting.proofs.first_step.Goals as goal

pub all_rows-requires : goal.all_rows-requires
all_rows-requires c = let a = c.args in let p = c.least-from.ensures in let q = c.least-to.ensures in rw (p, q) record {
  d_le_e = omega (arith, c.requires.d_le_e);
  takes = record {
    parts = parts_fewer _ _ c.requires.parts (omega (arith, c.requires.d_le_e)) (omega arith);
    pairable = pair_able a.undo {m = a.p.lows} (omega (arith, c.requires.d_le_e)) c.requires.bounded (within_some a.d a.e a.p.highs c.requires.rows_within);
  };
}

pub all_rows-requires-in-FiveThree-clause-takes : goal.all_rows-requires-in-FiveThree-clause-takes
all_rows-requires-in-FiveThree-clause-takes c = let a = c.args in let q = c.requires in
    rw (c.least-from.ensures, c.least-to.ensures) (moves_highs High a.undo a.p a.d a.e q.d_le_e.1 q.d_le_e.2 q.parts q.bounded (omega arith) q.rows_within tt)

pub returns-in-S : goal.returns-in-S
returns-in-S c = let a = c.args in let p = c.least-from.ensures in let q = c.least-to.ensures in
    first_pairs a.undo a.p.lows a.p.highs c.in-S.is (pairs_some a.undo a.d a.e c.requires.parts c.requires.d_le_e.1 (rw (p, q) at c.all_rows.ensures))

pub returns-in-FiveThree : goal.returns-in-FiveThree
returns-in-FiveThree c = let a = c.args in let p = c.least-from.ensures in let q = c.least-to.ensures in rw c.in-FiveThree.is (rows_second a.d a.e _ c.requires.d_le_e.1 (omega arith) c.requires.parts (lift_some a.d a.e a.p.highs (rw (p, q) at c.all_rows-in-FiveThree.ensures)))
