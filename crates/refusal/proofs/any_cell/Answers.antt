use Rattle.std.proofs.Common.{arith, ◌∙◌}
use Rattle.refusal.proofs.Scans.{scanned_none, scanned_more, scanned_all, parts_all, told_of}
use Rattle.refusal.proofs.any_cell.Goals as goal

pub loop-i-init : goal.loop-i-init
loop-i-init g c = λ o f t. scanned_none

pub loop-i-preserved : goal.loop-i-preserved
loop-i-preserved g c = λ o f t.
    let p = goal.F-post g c.args.test in
    let l = c.args.cells.now in
    let size = c.part_size-i-end.ensures in
    let h = c.loop-i-test.true in
    let second = c.part_start-b.ensures in
    let third = c.part_start-c.ensures in
    let fourth = c.part_start-d.ensures in
    scanned_more (c.loop-i.invariant o f t) (omega (arith, size.size, h)) (rw (
      told_of p l o t (omega (arith, size.inside, h)) c.index-cells-i.is c.test.ensures,
      told_of p l o t (omega (arith, size.size, second.inside, h)) c.index-cells-b.is c.test-in-loop-i.ensures,
      told_of p l o t (omega (arith, size.size, third.inside, h)) c.index-cells-c.is c.test-in-loop-i-2.ensures,
      told_of p l o t (omega (arith, size.size, fourth.inside, h)) c.index-cells-d.is c.test-in-loop-i-3.ensures,
      second.start,
      third.start,
      fourth.start,
    ))

pub returns : goal.returns
returns g c = λ o f t. scanned_all (c.loop-i.invariant o f t) (omega (arith, c.part_size-i-end.ensures.size, c.loop-i-test.false)) ∙ parts_all _ f
