-- `passes::strip` transforms a strip of columns in place. Assumes nothing.
use native.Mathlib.Omega.{arith}
use lib.IntN.{pos}
use Rattle.line.proofs.Cells.{low_left}
use Rattle.passes.proofs.Taking.{two_parts, strip_halved, evens_bounded, odds_bounded, strip_forward}
use Rattle.passes.proofs.strip.Goals as goal

pub forward-requires : goal.forward-requires
forward-requires c = let a = c.args in let p = c.take.ensures (pos 0) in let h = strip_halved a.l.now a.x a.stride a.h a.lanes p in
    rw (low_left a.h) record {
      lows_nonzero = (omega (arith, c.requires.h_nonzero), omega arith, omega arith);
      parts = two_parts a.h a.lanes _ (omega (arith, c.requires.h_nonzero)) c.requires.in_buffer.some (omega (arith, c.requires.h_nonzero, p.size));
      bounded = evens_bounded h c.requires.by_index;
      bounded_2 = odds_bounded h c.requires.by_index;
    }

pub returns : goal.returns
returns c = let a = c.args in
    strip_forward a.kernel a.l.now a.x a.stride a.h a.lanes (strip_halved a.l.now a.x a.stride a.h a.lanes (c.take.ensures (pos 0))) (rw (low_left a.h) at c.forward.ensures) (c.put.ensures (pos 0))
