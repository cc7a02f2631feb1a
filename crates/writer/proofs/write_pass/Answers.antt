use mathlib.Core.Path.{◌≡◌, refl, sym, ◌∙◌}
use Prim.Native.Nat.{◌*◌}
use native.Mathlib.Omega.{arith}
use lib.ListN.{length, take}
use lib.Seq.{length-take-le}
use Rattle.bitplane.proofs.Classes.{class_past}
use Rattle.members.proofs.Index.{front_held, word_off}
use Rattle.writer.specs.Passes.{stretch, whole_pass}
use Rattle.writer.proofs.Runs.{run_past, run_all, sends_start, sends_next, sends_skip, room_next}
use Rattle.writer.proofs.write_pass.Goals as goal

pub loop-k-init : goal.loop-k-init
loop-k-init c = (refl, sends_start _ _ _ _)

pub loop-k-preserved-then-word-eq0 : goal.loop-k-preserved-then-word-eq0
loop-k-preserved-then-word-eq0 c = let long : length (take c.words-words.result c.args.index.now) ≡ c.words-words.result = length-take-le _ _ (omega (arith, c.words-words.ensures, c.requires.within.0.ready.size, c.requires.within.1)) in
    let l = c.loop-k in (l.invariant.0, sends_skip _ _ 0 (4096 * l.k) 4096 (omega arith) (omega arith) (word_off (front_held c.words-words.result l.k (omega (arith, long)) c.requires.within.2) c.if-word-eq0.true) l.invariant.1)

pub write_word-q-requires : goal.write_word-q-requires
write_word-q-requires c = let s = c.args.pass.now in let m = c.requires.within.0.ready in
    let whole : whole_pass s ≡ stretch s 0 (4096 * c.words-words.result) = sym (run_past _ _ 0 (length s.plane.now) _ (omega (arith, c.words-words.ensures)) (λ k h. class_past _ _ _ m.known (omega (arith, m.over))) ∙ run_all _ _ _) in
    let long : length (take c.words-words.result c.args.index.now) ≡ c.words-words.result = length-take-le _ _ (omega (arith, c.words-words.ensures, c.requires.within.0.ready.size, c.requires.within.1)) in
    let l = c.loop-k in record {
      within = (c.requires.within.0, omega (arith, long, c.words-words.ensures, m.size), front_held c.words-words.result l.k (omega (arith, long)) c.requires.within.2);
      room = room_next _ _ 0 (4096 * l.k) 4096 (omega arith) (omega (arith, long)) l.invariant.1 l.invariant.0 (rw whole at c.requires.room);
    }

pub loop-k-preserved : goal.loop-k-preserved
loop-k-preserved c = let l = c.loop-k in let w = c.write_word-q in
    (w.auto.out ∙ l.invariant.0, sends_next _ _ 0 (4096 * l.k) 4096 (omega arith) (omega arith) l.invariant.1 w.ensures)

pub returns : goal.returns
returns c = let s = c.args.pass.now in let m = c.requires.within.0.ready in
    let whole : whole_pass s ≡ stretch s 0 (4096 * c.words-words.result) = sym (run_past _ _ 0 (length s.plane.now) _ (omega (arith, c.words-words.ensures)) (λ k h. class_past _ _ _ m.known (omega (arith, m.over))) ∙ run_all _ _ _) in
    let long : length (take c.words-words.result c.args.index.now) ≡ c.words-words.result = length-take-le _ _ (omega (arith, c.words-words.ensures, c.requires.within.0.ready.size, c.requires.within.1)) in
    let l = c.loop-k in let e : c.words-words.result ≡ l.k = omega (arith, long) in rw (whole, e) l.invariant.1
