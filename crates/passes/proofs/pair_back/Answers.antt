-- `passes::pair_back` ends the columns of a pair of rows, and takes both rows back. Assumes nothing.
use native.Mathlib.Omega.{arith}
use Rattle.passes.proofs.Pairs.{low_inside, low_takes, low_back, high_inside, high_takes, pair_back}
use Rattle.passes.proofs.pair_back.Goals as goal

pub row_back-requires : goal.row_back-requires
row_back-requires c = let a = c.args in let some = c.requires.lows_nonzero.0 in let g = c.requires.lows_nonzero.3 in let v = c.requires.w_bound in let f = c.first_step.ensures in record { w_nonzero = (g.lines, omega (arith, v), v.1); in_buffer = low_inside a.kernel a.lows a.highs a.at a.stride a.w some g v.2 f; takes = low_takes a.kernel a.lows a.highs a.at a.stride a.w some g v.2 f c.requires.takes.0 }

pub row_back-requires-then-highs-gt0 : goal.row_back-requires-then-highs-gt0
row_back-requires-then-highs-gt0 c = let a = c.args in let some = c.requires.lows_nonzero.0 in let g = c.requires.lows_nonzero.3 in let v = c.requires.w_bound in let f = c.first_step.ensures in let r = c.row_back in let high = c.if-highs-gt0.true in record { w_nonzero = (g.lines, omega (arith, v), omega (arith, v, r.auto.q)); in_buffer = high_inside a.kernel a.lows a.highs a.at a.stride a.w some g v.2 f high r.ensures; takes = high_takes a.kernel a.lows a.highs a.at a.stride a.w some g v.2 f high r.ensures (c.requires.takes.1 high) }

pub returns-then-highs-gt0 : goal.returns-then-highs-gt0
returns-then-highs-gt0 c = let a = c.args in let some = c.requires.lows_nonzero.0 in let g = c.requires.lows_nonzero.3 in let v = c.requires.w_bound in pair_back a.kernel a.lows a.highs a.at a.stride a.w some g v.2 c.first_step.ensures c.if-highs-gt0.true c.row_back.ensures c.row_back-then-highs-gt0.ensures

pub returns-else-highs-gt0 : goal.returns-else-highs-gt0
returns-else-highs-gt0 c = let a = c.args in let some = c.requires.lows_nonzero.0 in let g = c.requires.lows_nonzero.3 in let v = c.requires.w_bound in low_back a.kernel a.lows a.highs a.at a.stride a.w some g v.2 c.first_step.ensures (omega arith) c.row_back.ensures
