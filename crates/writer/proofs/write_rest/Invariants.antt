-- `writer::write_rest` writes what the last coefficients give to a plane. Assumes nothing.
use mathlib.Core.Path.{◌≡◌}
use Prim.Native.Nat.{◌+◌, ◌≤◌}
use lib.ListN.{length, drop}
use Rattle.writer.specs.Written.{Sends}
use Rattle.writer.specs.Passes.{stretch}
use Rattle.writer.proofs.write_rest.Given as goal

abbrev pub invariant-loop-z : goal.invariant-loop-z
invariant-loop-z l = record {
  kept : length l.out ≡ length l.initial.out;
  within : l.from + length l.yielded ≤ length l.pass.plane.now;
  cells : l.z-iterator.a.rest.now ≡ drop (l.from + length l.yielded) l.pass.plane.now;
  classes : l.z-iterator.b.rest.now ≡ drop (l.from + length l.yielded) l.pass.mask.now;
  sent : Sends (stretch l.pass l.from (length l.yielded)) l.p l.initial.out l.out l.q;
}
