-- `reader::bad_filling` tells whether anything but zeros in the last byte stands behind a complete body. Assumes nothing.
use Prim.Native.Nat.{◌-◌}
use Rattle.reader.proofs.Filling.{Clean}
use Rattle.reader.proofs.bad_filling.Given as goal

abbrev pub invariant-loop-p : goal.invariant-loop-p
invariant-loop-p l = Clean l.body l.end (l.p - l.end)
