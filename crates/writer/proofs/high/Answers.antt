use mathlib.Core.Path.{◌≡◌, ap, ◌∙◌}
use Prim.Native.Nat.{◌+◌, ◌-◌}
use native.Mathlib.Omega.{arith}
use lib.IntN.{pos, nat_abs}
use lib.ListN.{get_or, take, drop}
use borrow.Author.Count.{below_more}
use Rattle.whole.proofs.Linear.{reading}
use Rattle.line.specs.Cells.{cell}
use Rattle.members.proofs.Parts.{part_cell}
use Rattle.writer.proofs.Codes.{or_most}
use Rattle.writer.proofs.high.Goals as goal

pub loop-z-preserved : goal.loop-z-preserved
loop-z-preserved c = let i = c.args.i in let l = c.loop-z in let Z = c.args.pass.now.plane.now in
    let item : c.magnitude.result ≡ nat_abs (get_or (take (i + 16 - i) (drop i Z)) l.z-index (pos 0)) = c.magnitude.ensures ∙ search reading in
    let sized : c.magnitude.result ≡ nat_abs (cell Z (i + l.z-index)) = item ∙ ap nat_abs (part_cell Z i (i + 16) l.z-index (pos 0) (omega arith)) in
    let o = or_most l.high c.magnitude.result in
    below_more _ _ (λ k h. omega (arith, l.invariant k h)) (omega (arith, sized))
