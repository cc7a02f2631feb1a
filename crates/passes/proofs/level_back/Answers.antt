use mathlib.Core.Path.{◌≡◌, ◌∙◌}
use Prim.Native.Nat.{◌+◌, ◌*◌, ◌-◌, ◌/◌, ◌^◌, ◌<◌, ◌≤◌, min}
use native.Mathlib.Omega.{arith}
use Rattle.line.specs.Cells.{low_side}
use Rattle.lifting.proofs.Rows.{parts_as}
use Rattle.line.proofs.Cells.{low_most}
use Rattle.passes.proofs.Running.{area_reach}
use Rattle.passes.proofs.Swept.{Ahead, begun_to, placed_to, ahead_more, more_begun}
use Rattle.passes.proofs.Rolling.{parts_at, highs_top, pair_top, high_window, level_done}
use Rattle.passes.proofs.Turns.{begin_asks, end_asks, after_end}
use Rattle.passes.proofs.level_back.Goals as goal

pub second_step-requires : goal.second_step-requires
second_step-requires c = let inside : c.loop-n.n < low_side c.args.h = omega arith in
    let begun : c.least-to_begin.result ≡ begun_to (low_side c.args.h) c.loop-n.n = omega (arith, c.least-to_begin.ensures) in
    let placed : c.least-to_place.result ≡ placed_to (low_side c.args.h) c.loop-n.n = omega (arith, c.least-to_place.ensures) in
    let ahead : Ahead (low_side c.args.h) (c.loop-n.n + 1) c.least-to_begin.result c.least-to_place.result = ahead_more inside c.loop-n.invariant.2 begun placed in
    let a = c.args in let i = c.loop-n in let p = c.place_pairs.ensures in let z = c.least.ensures in record { d_le_e = (omega (arith, more_begun inside i.invariant.2 begun placed), omega (arith, ahead.order), omega (arith, z, high_window a.h inside ahead.near ahead.order ahead.top), omega (arith, ahead.order, ahead.near)); parts = parts_as (parts_at i.n _ _ c.requires.area_2 (omega (arith, ahead.order, ahead.near, ahead.top)) (omega (arith, z, highs_top c.least-to_place.result (a.h / 2) i.n (low_most a.h i.n inside)))) (p.size ∙ i.invariant.3.swept.size); second_takes = begin_asks a.kernel a.width a.stride a.w a.h a.plane.now a.l.now c.requires.area c.requires.area_2 c.requires.by_index c.requires.by_index_2 inside i.invariant.2 begun placed i.invariant.3 p z }

pub pair_back-requires : goal.pair_back-requires
pair_back-requires c = let inside : c.loop-n.n < low_side c.args.h = omega arith in
    let begun : c.least-to_begin.result ≡ begun_to (low_side c.args.h) c.loop-n.n = omega (arith, c.least-to_begin.ensures) in
    let placed : c.least-to_place.result ≡ placed_to (low_side c.args.h) c.loop-n.n = omega (arith, c.least-to_place.ensures) in
    let ahead : Ahead (low_side c.args.h) (c.loop-n.n + 1) c.least-to_begin.result c.least-to_place.result = ahead_more inside c.loop-n.invariant.2 begun placed in
    let places : let a = c.args in (2 * c.loop-n.n * a.stride ≤ 2 ^ 45) × (a.stride ≤ 2 ^ 32) = let z = c.requires.area_2 in (area_reach z _ (omega (arith, inside)), z.narrow) in
    let pair_highs : c.least-in-loop-n.result - c.loop-n.n ≡ min (c.loop-n.n + 1) (c.args.h / 2) - c.loop-n.n = rw c.least-in-loop-n.ensures in
    let a = c.args in let i = c.loop-n in let p = c.place_pairs.ensures in let z = c.least.ensures in let f = c.second_step.ensures in let pair = pair_highs in let one = pair_top (a.h / 2) i.n _ (low_most a.h i.n inside) pair in let e = end_asks a.kernel a.width a.stride a.w a.h a.plane.now a.l.now c.requires.area c.requires.area_2 c.requires.by_index c.requires.by_index_2 inside i.invariant.2 begun placed i.invariant.3 p z f pair in record { lows_nonzero = (omega (arith, ahead.near), one.0, omega (arith, places), parts_as (parts_at i.n _ _ c.requires.area_2 (omega (arith, ahead.order, ahead.near, ahead.top)) one.1) (f.size ∙ p.size ∙ i.invariant.3.swept.size)); w_bound = (c.requires.area.w_most, omega (arith, i.invariant.0, c.requires.w_in_bounds), c.requires.area_2.wide); bounded = e.0; bounded_2 = e.1; takes = (e.2, e.3) }

pub loop-n-preserved : goal.loop-n-preserved
loop-n-preserved c = let inside : c.loop-n.n < low_side c.args.h = omega arith in
    let begun : c.least-to_begin.result ≡ begun_to (low_side c.args.h) c.loop-n.n = omega (arith, c.least-to_begin.ensures) in
    let placed : c.least-to_place.result ≡ placed_to (low_side c.args.h) c.loop-n.n = omega (arith, c.least-to_place.ensures) in
    let ahead : Ahead (low_side c.args.h) (c.loop-n.n + 1) c.least-to_begin.result c.least-to_place.result = ahead_more inside c.loop-n.invariant.2 begun placed in
    let pair_highs : c.least-in-loop-n.result - c.loop-n.n ≡ min (c.loop-n.n + 1) (c.args.h / 2) - c.loop-n.n = rw c.least-in-loop-n.ensures in
    let a = c.args in let i = c.loop-n in let p = c.place_pairs.ensures in let z = c.least.ensures in let f = c.second_step.ensures in (c.pair_back.auto.q ∙ i.invariant.0, omega arith, ahead, after_end a.kernel a.width a.stride a.w a.h a.plane.now a.l.now c.requires.area c.requires.area_2 c.requires.by_index c.requires.by_index_2 inside i.invariant.2 begun placed i.invariant.3 p z f pair_highs c.pair_back.ensures)

pub returns : goal.returns
returns c = let a = c.args in let i = c.loop-n in let e : i.n ≡ low_side a.h = omega (arith, i.invariant.1) in let d : i.begun ≡ low_side a.h = omega (arith, i.invariant.2.near, i.invariant.2.order, i.invariant.2.top) in level_done a.kernel a.plane.now a.l.now i.l (rw (e, d) at i.invariant.3)
