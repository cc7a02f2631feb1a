use mathlib.Core.Path.{◌≡◌, refl, ◌∙◌}
use Prim.Native.Nat.{◌*◌}
use native.Mathlib.Omega.{arith}
use Rattle.writer.proofs.Runs.{sends_start, sends_next, room_next}
use Rattle.writer.proofs.write_blocks.Goals as goal

pub loop-b-init : goal.loop-b-init
loop-b-init c = (omega arith, refl, sends_start _ _ _ _)

pub write_block-q-requires : goal.write_block-q-requires
write_block-q-requires c = let l = c.loop-b in record { within = (c.requires.within.0, omega arith); room = room_next _ _ c.args.from (16 * l.b) 16 (omega arith) (omega arith) l.invariant.2 l.invariant.1 c.requires.room }

pub loop-b-preserved : goal.loop-b-preserved
loop-b-preserved c = let l = c.loop-b in let w = c.write_block-q in
    (omega arith, w.auto.out ∙ l.invariant.1, sends_next _ _ _ (16 * l.b) 16 (omega arith) (omega arith) l.invariant.2 w.ensures)

pub returns : goal.returns
returns c = let e : 16 * c.loop-b.b ≡ 64 = omega arith in rw e at c.loop-b.invariant.2
