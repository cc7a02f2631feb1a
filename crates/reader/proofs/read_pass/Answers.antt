use mathlib.Core.Path.{◌≡◌}
use Prim.Native.Nat.{◌*◌}
use native.Mathlib.Omega.{arith}
use lib.ListN.{length, take}
use lib.Seq.{length-take-le}
use Rattle.bitplane.proofs.Classes.{class_past}
use Rattle.members.proofs.Index.{front_held, word_off}
use Rattle.reader.proofs.Passes.{more_off, more_past, more_all, part_next}
use Rattle.reader.proofs.read_pass.Goals as goal

pub loop-k-preserved-then-word-eq0 : goal.loop-k-preserved-then-word-eq0
loop-k-preserved-then-word-eq0 c = let long : length (take c.words-words.result c.args.index.now) ≡ c.words-words.result = length-take-le _ _ (omega (arith, c.words-words.ensures, c.requires.0.ready.few, c.requires.1)) in
    let l = c.loop-k in (l.invariant.0, more_off 4096 (omega arith) (word_off (front_held c.words-words.result l.k (omega (arith, long)) c.requires.2) c.if-word-eq0.true) l.invariant.1)

pub loop-k-preserved-then-end-q : goal.loop-k-preserved-then-end-q
loop-k-preserved-then-end-q c = let l = c.loop-k in (l.invariant.0, more_past (4096 * l.k) _ (omega arith) c.if-end-q.true l.invariant.1)

pub read_word-q-requires : goal.read_word-q-requires
read_word-q-requires c = let long : length (take c.words-words.result c.args.index.now) ≡ c.words-words.result = length-take-le _ _ (omega (arith, c.words-words.ensures, c.requires.0.ready.few, c.requires.1)) in
    let l = c.loop-k in (omega (arith, long, c.words-words.ensures, c.requires.0.ready.few), part_next l.invariant.0 (omega arith) l.invariant.1 c.requires.0, front_held c.words-words.result l.k (omega (arith, long)) c.requires.2)

pub returns : goal.returns
returns c = let long : length (take c.words-words.result c.args.index.now) ≡ c.words-words.result = length-take-le _ _ (omega (arith, c.words-words.ensures, c.requires.0.ready.few, c.requires.1)) in
    let l = c.loop-k in more_all (4096 * l.k) c.requires.0.ready.place (omega (arith, long, c.words-words.ensures)) (λ i g. class_past _ _ _ c.requires.0.ready.class (omega (arith, c.requires.0.ready.sizes))) l.invariant.1
