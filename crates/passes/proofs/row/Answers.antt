-- `passes::row` transforms a row in place. Assumes nothing.
use native.Mathlib.Omega.{arith}
use lib.IntN.{pos}
use Rattle.line.proofs.Cells.{low_left}
use Rattle.passes.proofs.Taking.{line_parts, row_back_room, row_halved, row_bounded, row_forward}
use Rattle.passes.proofs.row.Goals as goal

pub forward-requires : goal.forward-requires
forward-requires c = let a = c.args in let p = rw (low_left a.w) at (c.part.ensures (λ z. z) (λ x z e. e) (pos 0)) in
    let b = row_bounded (row_halved a.l.now a.at a.w p) c.requires.takes in
    rw (low_left a.w) record {
      lows_nonzero = (omega (arith, c.requires.w_nonzero), omega arith, omega arith);
      parts = line_parts a.w _ c.requires.w_nonzero.1 (omega (arith, c.requires.w_nonzero, p.size));
      bounded = b.0;
      bounded_2 = b.1;
    }

pub copy-requires : goal.copy-requires
copy-requires c = let a = c.args in let p = rw (low_left a.w) at (c.part.ensures (λ z. z) (λ x z e. e) (pos 0)) in let f = rw (low_left a.w) at c.forward.ensures in
    row_back_room a.w c.requires.in_buffer (omega (arith, c.requires.w_nonzero, f.size, p.size))

pub returns : goal.returns
returns c = let a = c.args in let p = rw (low_left a.w) at (c.part.ensures (λ z. z) (λ x z e. e) (pos 0)) in let f = rw (low_left a.w) at c.forward.ensures in
    row_forward a.kernel a.l.now a.at a.w (row_halved a.l.now a.at a.w p) f (c.copy.ensures (pos 0))
