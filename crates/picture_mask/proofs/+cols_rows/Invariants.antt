-- `picture_mask::rows` and `picture_mask::cols` walk the levels. The measure is twice the levels left, and one more in `rows`. Assumes nothing.
use Prim.Native.Nat.{◌+◌}
use Rattle.picture_mask.proofs.+cols_rows.Given as goal

abbrev pub decreases-cols : goal.decreases-cols
decreases-cols l = l.levels + l.levels

abbrev pub decreases-rows : goal.decreases-rows
decreases-rows l = l.levels + l.levels + 1
