-- `lifting::second_step` does the second step of a kernel on some rows, or undoes it. Assumes nothing.
use mathlib.Core.Path.{◌≡◌}
use mathlib.Core.Bool.{not}
use native.Mathlib.Omega.{arith}
use Rattle.runs.specs.Step.{SPlusP, TT, Low}
use Rattle.lifting.proofs.Rows.{parts_fewer, bounded_more}
use Rattle.lifting.proofs.Lifts.{lift_some}
use Rattle.lifting.proofs.Stages.{rows_fit, both_none, lows_stay, rows_first, rows_second}
use Rattle.lifting.proofs.Walks.{moves_highs}
use Rattle.lifting.proofs.second_step.Goals as goal

pub all_rows-requires-clause-takes : goal.all_rows-requires-clause-takes
all_rows-requires-clause-takes c = let a = c.args in let q = c.requires in let x = rw c.in-SPlusP.is at q.second_takes in
    rw (c.least-from.ensures, c.least-to.ensures) (moves_highs SPlusP a.undo a.p a.d a.e q.d_le_e.1 q.d_le_e.3 q.parts x.0 (omega arith) x.1 tt)

pub all_rows-requires-in-TT-clause-takes : goal.all_rows-requires-in-TT-clause-takes
all_rows-requires-in-TT-clause-takes c = let a = c.args in let q = c.requires in let x = rw c.in-TT.is at q.second_takes in
    rw (c.least-from.ensures, c.least-to.ensures) (moves_highs TT a.undo a.p a.d a.e q.d_le_e.1 q.d_le_e.3 q.parts x.0 (omega arith) x.1 tt)

pub all_rows-requires-then-p-gt0-clause-takes : goal.all_rows-requires-then-p-gt0-clause-takes
all_rows-requires-then-p-gt0-clause-takes c = let a = c.args in let x = rw c.in-FiveThree.is at c.requires.second_takes in record {
  some = omega arith;
  top = c.requires.d_le_e.2;
  parts = parts_fewer _ _ c.requires.parts c.requires.d_le_e.1 (omega arith);
  bounded = bounded_more x.0 (omega arith);
  fit = rows_fit Low (not a.undo) c.requires.d_le_e.2 x.1 x.0 tt;
}

pub returns-in-SPlusP : goal.returns-in-SPlusP
returns-in-SPlusP c = let a = c.args in let p = c.least-from.ensures in let q = c.least-to.ensures in rw c.in-SPlusP.is (rows_second a.d a.e _ c.requires.d_le_e.1 (omega arith) c.requires.parts (lift_some a.d a.e a.p.highs (rw (p, q) at c.all_rows.ensures)))

pub returns-in-TT : goal.returns-in-TT
returns-in-TT c = let a = c.args in let p = c.least-from.ensures in let q = c.least-to.ensures in rw c.in-TT.is (rows_second a.d a.e _ c.requires.d_le_e.1 (omega arith) c.requires.parts (lift_some a.d a.e a.p.highs (rw (p, q) at c.all_rows-in-TT.ensures)))

pub returns-then-p-gt0 : goal.returns-then-p-gt0
returns-then-p-gt0 c = let a = c.args in rw c.in-FiveThree.is (rows_first a.d a.e _ c.requires.d_le_e.1 (omega arith) c.requires.parts c.all_rows-then-p-gt0.ensures)

pub returns-else-p-gt0 : goal.returns-else-p-gt0
returns-else-p-gt0 c = let a = c.args in let e : a.p.highs ≡ 0 = omega arith in rw c.in-FiveThree.is (lows_stay (not a.undo) a.d a.e e (both_none a.p.a a.p.b a.p.step a.p.lanes a.d a.e _ a.l.now))
