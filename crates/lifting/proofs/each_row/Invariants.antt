-- `lifting::each_row` does a stage row by row. The loop's invariant: it is done on the rows from d up to n. Assumes nothing.
use Prim.Native.Nat.{◌≤◌}
use Rattle.lifting.specs.Stages.{Makes}
use Rattle.lifting.proofs.each_row.Given as goal

abbrev pub invariant-loop-n : goal.invariant-loop-n
invariant-loop-n g l = (l.d ≤ l.n) × (l.n ≤ l.e) × Makes g.T.OnRows.stage l.undo l.p l.d l.n l.initial.l l.l
