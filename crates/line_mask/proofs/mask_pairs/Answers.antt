use mathlib.Core.Path.{◌≡◌}
use Prim.Native.Nat.{ℕ, ◌+◌, ◌*◌, ◌<◌, ◌≤◌}
use native.Mathlib.Nat.{add-mul, mul-le-mul_right}
use native.Mathlib.Omega.{arith}
use Rattle.line_mask.proofs.Masks.{reach_none, reach_more, reach_past}
use Rattle.line_mask.proofs.mask_pairs.Goals as goal
use Rattle.line_mask.proofs.mask_pairs.Goals.{then-d-lows, else-d-lows}

-- d rows, at least one and fewer than the lows: the lows without them are not more than the highs
rows : (c lows highs d : ℕ) → highs ≤ lows → lows ≤ highs + 1 → 0 < d → d < lows → (d * c ≤ highs * c) × (lows * c ≤ highs * c + d * c) × (highs * c ≤ lows * c)
rows c lows highs d le fit some h = (mul-le-mul_right _ (omega arith), omega (arith, add-mul highs d c, mul-le-mul_right {m = lows} {n = highs + d} c (omega arith)), mul-le-mul_right c le)

pub join_marks-requires-then-d-lows-clause-n_in_bounds :
    goal.join_marks-requires-then-d-lows-clause-n_in_bounds
join_marks-requires-then-d-lows-clause-n_in_bounds c =
    let g = c.args.lines in let r = rows g.lanes g.lows g.highs (c.loop-k.k + 1) c.requires.pairs c.requires.alone (omega arith) (omega arith) in omega arith

pub loop-k-preserved : goal.loop-k-preserved
loop-k-preserved c = let l = c.loop-k in (
  λ s p. elim c.if-d-lows.branch [
    | then-d-lows w ↦ rw w.marks-is (reach_more c.requires l.k (l.invariant.0 s p) w.join_marks-then-d-lows.ensures w.join_marks-then-d-lows-2.ensures w.if-d-lows.true)
    | else-d-lows w ↦ rw w.marks-is (reach_past c.requires l.k (l.invariant.0 s p) w.if-d-lows.false)
  ],
  elim c.if-d-lows.branch [ then-d-lows w ↦ omega arith | else-d-lows w ↦ omega arith ],
  omega arith,
)

pub returns : goal.returns
returns c = let l = c.loop-k in let e : l.k ≡ c.args.reach = omega arith in
    rw e at (l.invariant.0 _ (reach_none c.requires c.join_marks.ensures c.join_marks-2.ensures))
