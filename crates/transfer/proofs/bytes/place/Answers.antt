use mathlib.Core.Path.{◌≡◌, ◌∙◌}
use Prim.Native.Nat.{◌*◌}
use native.Mathlib.Omega.{arith}
use Rattle.grid.proofs.Parted.{source}
use Rattle.transfer.proofs.Parting.{source_at-source, placing_more, placing_all}
use Rattle.transfer.proofs.bytes.place.Goals as goal

pub loop-n-preserved : goal.loop-n-preserved
loop-n-preserved c = let a = c.args in let row : c.source.result ≡ source a.h c.loop-n.n = c.source.ensures ∙ source_at-source a.h _ c.loop-n.n (omega arith) in
    let parted = c.part.ensures a.src.now (c.source.result * a.w) c.pair_up.ensures in
    (placing_more c.loop-n.invariant.0 (omega arith) (rw row at parted), c.pair_up.auto.line ∙ c.loop-n.invariant.1)

pub returns : goal.returns
returns c = let p = c.requires in placing_all p.src_len.0 p.src_len.1 c.loop-n.invariant.0 (omega arith)
