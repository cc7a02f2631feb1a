-- `writer::write_pass` writes a pass: the coefficients of a word of 0 give nothing. Assumes nothing.
use mathlib.Core.Path.{◌≡◌}
use Prim.Native.Nat.{◌*◌}
use lib.ListN.{length}
use Rattle.writer.specs.Written.{Sends}
use Rattle.writer.specs.Passes.{stretch}
use Rattle.writer.proofs.write_pass.Given as goal

abbrev pub invariant-loop-k : goal.invariant-loop-k
invariant-loop-k l = (length l.out ≡ length l.initial.out) × Sends (stretch l.pass 0 (4096 * l.k)) l.p l.initial.out l.out l.q
