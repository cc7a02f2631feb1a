use Rattle.std.proofs.lemmas.List.{get_or_read}
use Rattle.transfer.proofs.Copies.{copying_none, copying_more, copying_all}
use Rattle.transfer.proofs.copy.Goals as goal

pub loop-k-init : goal.loop-k-init
loop-k-init g c = λ o. copying_none c.requires

pub loop-k-preserved : goal.loop-k-preserved
loop-k-preserved g c = λ o. let h = c.loop-k-test.true in
    copying_more (c.loop-k.invariant o) h (get_or_read c.args.src.now _ _ (c.requires.source c.loop-k.k h) c.index-src-from.is o)

pub returns : goal.returns
returns g c = λ o. copying_all (c.loop-k.invariant o) c.loop-k-test.false
