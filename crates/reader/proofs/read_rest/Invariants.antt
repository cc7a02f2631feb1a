-- `reader::read_rest` reads 16 coefficients of a pass, one after the other. Assumes nothing.
use mathlib.Core.Path.{◌≡◌}
use Prim.Native.Nat.{◌+◌, ◌≤◌}
use lib.ListN.{length}
use Rattle.reader.specs.Passes.{Goes}
use Rattle.reader.proofs.read_rest.Given as goal

abbrev pub invariant-loop-i : goal.invariant-loop-i
invariant-loop-i l = (l.from ≤ l.i) × (l.i ≤ l.from + 16) × (length l.plane ≡ length l.initial.plane) × Goes l.pass l.initial.plane l.p l.from l.plane l.q l.i
