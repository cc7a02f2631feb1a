-- `reader::read_blocks` reads 64 coefficients of a pass. Assumes nothing.
use mathlib.Core.Path.{◌≡◌}
use Prim.Native.Nat.{◌+◌, ◌*◌, ◌≤◌}
use lib.ListN.{length}
use Rattle.reader.specs.Passes.{Goes}
use Rattle.reader.proofs.read_blocks.Given as goal

abbrev pub invariant-loop-b : goal.invariant-loop-b
invariant-loop-b l = (l.b ≤ 4) × (length l.plane ≡ length l.initial.plane) × Goes l.pass l.initial.plane l.p l.from l.plane l.q (l.from + 16 * l.b)
