use mathlib.Core.Path.{◌≡◌, ◌∙◌}
use Prim.Native.Nat.{◌+◌, ◌<◌, ◌≤◌}
use native.Mathlib.Omega.{arith}
use Rattle.line.specs.Cells.{low_side}
use Rattle.lifting.proofs.Rows.{parts_as}
use Rattle.line.proofs.Cells.{low_left}
use Rattle.passes.proofs.Swept.{Ahead, begun_to, placed_to, ahead_more, more_begun}
use Rattle.passes.proofs.Rising.{parts_in, high_near, level_all, first_asks, second_asks, after_second}
use Rattle.passes.proofs.level_in.Goals as goal

pub first_step-requires : goal.first_step-requires
first_step-requires c = let inside : c.loop-n.n < low_side c.args.h = omega arith in
    let begun : c.least-to_begin.result ≡ begun_to (low_side c.args.h) c.loop-n.n = omega (arith, c.least-to_begin.ensures) in
    let stored : c.least-to_place.result ≡ placed_to (low_side c.args.h) c.loop-n.n = omega (arith, c.least-to_place.ensures) in
    let ahead : Ahead (low_side c.args.h) (c.loop-n.n + 1) c.least-to_begin.result c.least-to_place.result = ahead_more inside c.loop-n.invariant.1 begun stored in
    let a = c.args in let i = c.loop-n in let p = c.pairs_in.ensures in let z = c.least.ensures in let q = first_asks a.kernel a.samples.now a.w a.h a.l.now c.requires.by_index_2 inside i.invariant.1 begun stored i.invariant.2 p z in rw (low_left a.h) record {
      d_le_e = (more_begun inside i.invariant.1 begun stored, ahead.order, omega (arith, ahead.near, ahead.order));
      parts = parts_as (parts_in _ _ c.requires.area ahead.top (omega (arith, z))) (p.size ∙ i.invariant.2.swept.size);
      bounded = q.0;
      rows_within = q.1;
    }

pub second_step-requires : goal.second_step-requires
second_step-requires c = let inside : c.loop-n.n < low_side c.args.h = omega arith in
    let begun : c.least-to_begin.result ≡ begun_to (low_side c.args.h) c.loop-n.n = omega (arith, c.least-to_begin.ensures) in
    let stored : c.least-to_place.result ≡ placed_to (low_side c.args.h) c.loop-n.n = omega (arith, c.least-to_place.ensures) in
    let ahead : Ahead (low_side c.args.h) (c.loop-n.n + 1) c.least-to_begin.result c.least-to_place.result = ahead_more inside c.loop-n.invariant.1 begun stored in
    let a = c.args in let i = c.loop-n in let p = c.pairs_in.ensures in let f = rw (low_left a.h) at c.first_step.ensures in let z = c.least-in-loop-n.ensures in let top : c.least-to_begin.result ≤ low_side a.h = omega (arith, ahead.order, ahead.top) in rw (low_left a.h) record {
      d_le_e = (omega arith, ahead.near, high_near a.h inside ahead.near z, omega (arith, ahead.near));
      parts = parts_as (parts_in _ _ c.requires.area top (omega (arith, z))) (f.size ∙ p.size ∙ i.invariant.2.swept.size);
      second_takes = second_asks a.kernel a.samples.now a.w a.h a.l.now c.requires.by_index_2 inside i.invariant.1 begun stored i.invariant.2 p c.least.ensures f z;
    }

pub loop-n-preserved : goal.loop-n-preserved
loop-n-preserved c = let inside : c.loop-n.n < low_side c.args.h = omega arith in
    let begun : c.least-to_begin.result ≡ begun_to (low_side c.args.h) c.loop-n.n = omega (arith, c.least-to_begin.ensures) in
    let stored : c.least-to_place.result ≡ placed_to (low_side c.args.h) c.loop-n.n = omega (arith, c.least-to_place.ensures) in
    let ahead : Ahead (low_side c.args.h) (c.loop-n.n + 1) c.least-to_begin.result c.least-to_place.result = ahead_more inside c.loop-n.invariant.1 begun stored in
    let a = c.args in let i = c.loop-n in (omega arith, ahead, after_second a.kernel a.samples.now a.w a.h a.l.now c.requires.by_index_2 inside i.invariant.1 begun stored i.invariant.2 c.pairs_in.ensures c.least.ensures (rw (low_left a.h) at c.first_step.ensures) c.least-in-loop-n.ensures (rw (low_left a.h) at c.second_step.ensures))

pub returns : goal.returns
returns c = let a = c.args in let i = c.loop-n in let e : i.n ≡ low_side a.h = omega (arith, i.invariant.0) in let d : i.begun ≡ low_side a.h = omega (arith, i.invariant.1.near, i.invariant.1.order, i.invariant.1.top) in level_all a.kernel a.samples.now a.w a.h c.requires.l_len.0 c.requires.l_len.1 (rw (e, d) at i.invariant.2)
