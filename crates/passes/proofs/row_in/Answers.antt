-- `passes::row_in` transforms a row of samples and stores it. Assumes nothing.
use mathlib.Core.Path.{◌≡◌}
use Prim.Native.Nat.{◌+◌, ◌-◌, ◌/◌}
use native.Mathlib.Omega.{arith}
use lib.IntN.{ℤ, pos}
use lib.ListN.{get_or}
use Rattle.line.specs.Cells.{Line, low_side}
use Rattle.line.proofs.Cells.{low_left}
use Rattle.passes.proofs.Placing.{row_parts, samples_parted, front_bounded, rear_bounded, row_stored}
use Rattle.passes.proofs.row_in.Goals as goal

pub forward-requires : goal.forward-requires
forward-requires c = let same : c.args.w - c.args.w / 2 ≡ low_side c.args.w = low_left c.args.w in
    let a = c.args in let x : Line ℤ = λ i. pos (get_or a.samples.now (a.from + i) 0) in let p = samples_parted a.samples.now a.from a.at a.w (rw same at (c.part.ensures pos (λ x z e. e) 0)) in
    rw same record {
      lows_nonzero = (omega (arith, c.requires.w_nonzero), omega arith, omega arith);
      parts = row_parts a.at a.w _ c.requires.w_nonzero.1 (omega (arith, c.requires.w_in_bounds, p.size));
      bounded = front_bounded x a.at a.w p c.requires.all_within;
      bounded_2 = rear_bounded x a.at a.w p c.requires.all_within;
    }

pub returns : goal.returns
returns c = let same : c.args.w - c.args.w / 2 ≡ low_side c.args.w = low_left c.args.w in
    let a = c.args in row_stored (λ i. pos (get_or a.samples.now (a.from + i) 0)) a.at a.w (samples_parted a.samples.now a.from a.at a.w (rw same at (c.part.ensures pos (λ x z e. e) 0))) a.kernel (rw same at c.forward.ensures)
