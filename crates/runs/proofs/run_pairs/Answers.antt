use mathlib.Core.Path.{◌∙◌, ap₂}
use native.Mathlib.Omega.{arith}
use Rattle.whole.proofs.Linear.{reading}
use Rattle.runs.specs.Pair.{pair_first, pair_second}
use Rattle.runs.proofs.Pairs.{seen_pair, pairing_more, pairing_all}
use Rattle.runs.proofs.run_pairs.Goals as goal

pub both-x-requires : goal.both-x-requires
both-x-requires g c = let read = seen_pair c.requires.apart c.loop-k.invariant (omega arith) (omega arith) (omega arith) in
    rw (read.0, read.1) (c.requires.by_index c.loop-k.k (omega arith))

pub loop-k-preserved : goal.loop-k-preserved
loop-k-preserved g c = let read = seen_pair c.requires.apart c.loop-k.invariant (omega arith) (omega arith) (omega arith) in
    let join = g.P.Pair.join in let made = c.both-x in
    pairing_more c.requires.apart c.loop-k.invariant (omega arith)
    (search reading ∙ made.ensures.first ∙ ap₂ (pair_first join) read.0 read.1) (search reading ∙ made.ensures.second ∙ ap₂ (pair_second join) read.0 read.1)

pub returns : goal.returns
returns g c = pairing_all c.loop-k.invariant (omega arith)
