-- `lifting::forward_s` transforms a strip by kernel 0. Assumes nothing.
use Rattle.earlier_passes.proofs.Transforms.{split_means, split_differences, forward_s}
use Rattle.earlier_passes.proofs.lifting.forward_s.Goals as goal

pub returns : goal.returns
returns c = let a = c.args in let w = c.split_pairs.ensures in
    forward_s a.m a.lanes a.even.now a.odd.now _ _ (split_means a.m a.lanes a.even.now a.odd.now _ a.odd.now w.written) (split_differences a.m a.lanes a.even.now a.odd.now a.even.now _ w.written_2)
