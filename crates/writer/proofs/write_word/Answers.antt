use mathlib.Core.Path.{◌≡◌, refl, ◌∙◌}
use Prim.Native.Nat.{◌*◌}
use native.Mathlib.Omega.{arith}
use Rattle.members.proofs.Index.{flag_off}
use Rattle.writer.proofs.Runs.{sends_start, sends_next, sends_skip, room_next}
use Rattle.writer.proofs.write_word.Goals as goal

pub loop-j-init : goal.loop-j-init
loop-j-init c = (omega arith, refl, sends_start _ _ _ _)

pub loop-j-preserved-then-word-j-eq0 : goal.loop-j-preserved-then-word-j-eq0
loop-j-preserved-then-word-j-eq0 c = let l = c.loop-j in (omega arith, l.invariant.1, sends_skip _ _ _ (64 * l.j) 64 refl (omega arith) (flag_off c.requires.within.2 l.j (omega arith) c.if-word-j-eq0.true) l.invariant.2)

pub write_chunk-q-requires : goal.write_chunk-q-requires
write_chunk-q-requires c = let l = c.loop-j in record { within = (c.requires.within.0, omega arith); room = room_next _ _ c.args.from (64 * l.j) 64 (omega arith) (omega arith) l.invariant.2 l.invariant.1 c.requires.room }

pub loop-j-preserved : goal.loop-j-preserved
loop-j-preserved c = let l = c.loop-j in let w = c.write_chunk-q in
    (omega arith, w.auto.out ∙ l.invariant.1, sends_next _ _ _ (64 * l.j) 64 (omega arith) (omega arith) l.invariant.2 w.ensures)

pub returns : goal.returns
returns c = let e : 64 * c.loop-j.j ≡ 4096 = omega arith in rw e at c.loop-j.invariant.2
