-- `writer::write_word` writes what 4,096 coefficients give to a plane: those of a flag of 0 give nothing. Assumes nothing.
use mathlib.Core.Path.{◌≡◌}
use Prim.Native.Nat.{◌*◌, ◌≤◌}
use lib.ListN.{length}
use Rattle.writer.specs.Written.{Sends}
use Rattle.writer.specs.Passes.{stretch}
use Rattle.writer.proofs.write_word.Given as goal

abbrev pub invariant-loop-j : goal.invariant-loop-j
invariant-loop-j l = (l.j ≤ 64) × (length l.out ≡ length l.initial.out) × Sends (stretch l.pass l.from (64 * l.j)) l.p l.initial.out l.out l.q
