-- `writer::write_chunk` writes what 64 coefficients give to a plane: past the last one none is of the class. Assumes nothing.
use mathlib.Core.Path.{◌≡◌}
use Prim.Native.Nat.{◌-◌}
use native.Mathlib.Omega.{arith}
use lib.ListN.{length}
use Rattle.bitplane.proofs.Classes.{class_past}
use Rattle.writer.specs.Passes.{stretch}
use Rattle.writer.proofs.Runs.{run_past, sends_off}
use Rattle.writer.proofs.write_chunk.Goals as goal

pub write_rest-requires : goal.write_rest-requires
write_rest-requires c = let s = c.args.pass.now in let m = c.requires.within.0.ready in
    let ended : stretch s c.args.from 64 ≡ stretch s c.args.from (length s.plane.now - c.args.from) = run_past _ _ _ _ 64 (omega arith) (λ k h. class_past _ _ _ m.known (omega (arith, m.over))) in
    record { within = (c.requires.within.0, omega arith); room = rw ended at c.requires.room }

pub returns-then-from-pass-2 : goal.returns-then-from-pass-2
returns-then-from-pass-2 c = let s = c.args.pass.now in let m = c.requires.within.0.ready in
    let ended : stretch s c.args.from 64 ≡ stretch s c.args.from (length s.plane.now - c.args.from) = run_past _ _ _ _ 64 (omega arith) (λ k h. class_past _ _ _ m.known (omega (arith, m.over))) in
    rw ended c.write_rest.ensures

pub returns : goal.returns
returns c = let m = c.requires.within.0.ready in sends_off _ _ _ 64 _ (λ k h. class_past _ _ _ m.known (omega (arith, m.over)))
