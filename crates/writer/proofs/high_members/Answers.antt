use mathlib.Core.Path.{◌≡◌, ap, ◌∙◌}
use Prim.Native.Nat.{◌+◌, ◌-◌, ◌*◌}
use native.Mathlib.Omega.{arith}
use lib.IntN.{pos, nat_abs}
use lib.ListN.{get_or, take, drop}
use borrow.Author.Count.{below_more}
use Rattle.whole.proofs.Linear.{reading}
use Rattle.line.specs.Cells.{cell}
use Rattle.members.proofs.Parts.{part_cell}
use Rattle.writer.proofs.Codes.{or_most, member_all}
use Rattle.writer.proofs.high_members.Goals as goal

pub loop-k-preserved : goal.loop-k-preserved
loop-k-preserved c = let i = c.args.i in let l = c.loop-k in let Z = c.args.pass.now.plane.now in
    let m = c.member-member in
    let item : c.magnitude.result ≡ nat_abs (get_or (take (i + 16 - i) (drop i Z)) l.k (pos 0)) = c.magnitude.ensures ∙ search reading in
    let sized : c.magnitude.result ≡ nat_abs (cell Z (i + l.k)) = item ∙ ap nat_abs (part_cell Z i (i + 16) l.k (pos 0) (omega arith)) in
    let o = or_most l.high (c.magnitude.result * m.result) in
    below_more _ _ (λ k h q. omega (arith, l.invariant k h q)) (λ q. omega (arith, sized, member_all c.magnitude.result m.result m.ensures q))
