-- `writer::write_blocks` writes what 64 coefficients give to a plane. Assumes nothing.
use mathlib.Core.Path.{◌≡◌}
use Prim.Native.Nat.{◌*◌, ◌≤◌}
use lib.ListN.{length}
use Rattle.writer.specs.Written.{Sends}
use Rattle.writer.specs.Passes.{stretch}
use Rattle.writer.proofs.write_blocks.Given as goal

abbrev pub invariant-loop-b : goal.invariant-loop-b
invariant-loop-b l = (l.b ≤ 4) × (length l.out ≡ length l.initial.out) × Sends (stretch l.pass l.from (16 * l.b)) l.p l.initial.out l.out l.q
