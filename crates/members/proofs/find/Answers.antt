use mathlib.Core.Path.{◌≡◌, ◌∙◌}
use native.Mathlib.Omega.{arith}
use lib.ListN.{length}
use lib.Seq.{length-take-le}
use Rattle.bitplane.proofs.Classes.{class_past}
use Rattle.members.proofs.Index.{words_front, words_all}
use Rattle.members.proofs.find.Goals as goal

pub returns : goal.returns
returns c = let long : length c.loop-k.flags-items ≡ c.words-n.result = c.loop-k.auto.flags-items ∙ length-take-le _ _ (omega (arith, c.words-n.ensures)) in
    words_all (λ i. class_past c.args.mask.now c.args.c i c.requires.0) (omega (arith, c.words-n.ensures, long)) (words_front _ (omega (arith, long)) c.loop-k.invariant.1)
