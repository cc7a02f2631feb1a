use Rattle.std.proofs.Common.{rules, subst}
use Rattle.std.specs.Io.KnownBytes.{Consumes}
use Rattle.std.proofs.KnownBytes.{Consumes-trans}
use Rattle.standard_input.proofs.Filled.{filled}
use Rattle.standard_input.proofs.fill.Goals as goal

pub loop-n-preserved : goal.loop-n-preserved
loop-n-preserved g c =
    let read = c.in_ok-found.ensures in
    let more = filled c.loop-n.n _ c.in_ok-found.found c.loop-n.buffer c.read.new.buf c.loop-n.invariant.1 read.bound.0 in
    (search rules, search rules, subst (Consumes _ _) more (Consumes-trans _ _ _ _ _ c.loop-n.invariant.2 read.bytes.0))
