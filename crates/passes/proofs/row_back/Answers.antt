-- `passes::row_back` takes a row back in place. Assumes nothing.
use native.Mathlib.Omega.{arith}
use lib.IntN.{pos}
use Rattle.line.proofs.Cells.{low_left}
use Rattle.passes.proofs.Taking.{line_parts, row_out, lows_bounded, highs_bounded, row_back}
use Rattle.passes.proofs.row_back.Goals as goal

pub copy-requires : goal.copy-requires
copy-requires c = row_out c.args.w c.requires.in_buffer (omega (arith, c.requires.w_nonzero))

pub back-requires : goal.back-requires
back-requires c = let a = c.args in let t = c.requires.takes in
    let p = c.copy.ensures (pos 0) in
    rw (low_left a.w) record {
      lows_nonzero = (omega (arith, c.requires.w_nonzero), omega arith, omega arith);
      parts = line_parts a.w _ c.requires.w_nonzero.1 (omega (arith, c.requires.w_nonzero, p.size));
      bounded = lows_bounded a.l.now a.at a.w p t;
      bounded_2 = highs_bounded a.l.now a.at a.w p t;
    }

pub returns : goal.returns
returns c = let a = c.args in
    let p = c.copy.ensures (pos 0) in
    row_back a.l.now a.at a.w p a.kernel (rw (low_left a.w) at c.back.ensures) (rw (low_left a.w) at c.weave.ensures)
