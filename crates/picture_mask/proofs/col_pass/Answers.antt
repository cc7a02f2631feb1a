use mathlib.Core.Path.{◌≡◌, refl, ap, ◌∙◌}
use Prim.Native.Nat.{◌+◌, ◌/◌, ◌<◌, ◌≤◌, min}
use native.Mathlib.Omega.{arith}
use Rattle.grid.specs.Picture.{turned}
use Rattle.picture_mask.proofs.Local.{bytes_local}
use Rattle.picture_mask.proofs.Running.{cols_none, cols_more, col_strip, col_in, cols_now, most_lanes}
use Rattle.picture_mask.proofs.col_pass.Goals as goal

pub loop-x-init : goal.loop-x-init
loop-x-init c = let start : min 0 c.args.w ≡ 0 = omega arith in (rw start cols_none, refl)

pub columns-requires : goal.columns-requires
columns-requires c = let l = c.loop-x in let n = c.min-lanes.result in
    let lanes : (0 < n) × (n ≤ 32768 / c.args.h) × (l.x + n ≤ c.args.w) = omega (arith, c.min-lanes.ensures, most_lanes c.requires.area, c.loop-x-test.true) in
    let z = cols_now c.args.kernel c.requires.area l.invariant.0 in
    record { in_buffer = col_in z l.x _ lanes.0 lanes.2; strip = col_strip z _ (omega (arith, c.requires.in_bounds, l.invariant.1)) _ lanes.1; binary = z.marks }

pub loop-x-preserved : goal.loop-x-preserved
loop-x-preserved c = let l = c.loop-x in let n = c.min-lanes.result in let r = c.columns in
    let lanes : (0 < n) × (n ≤ 32768 / c.args.h) × (l.x + n ≤ c.args.w) = omega (arith, c.min-lanes.ensures, most_lanes c.requires.area, c.loop-x-test.true) in
    let here : min l.x c.args.w ≡ l.x = omega (arith, c.loop-x-test.true) in
    let next : l.x + n ≡ min (l.x + 32768 / c.args.h) c.args.w = omega (arith, c.min-lanes.ensures, c.loop-x-test.true) in
    (rw next at (cols_more (bytes_local c.args.kernel) c.requires.area.wide n (rw here at l.invariant.0) lanes.2 r.ensures), r.auto.strip ∙ l.invariant.1)

-- behind the last strip
pub returns-2 : goal.returns-2
returns-2 c = let l = c.loop-x in let n = c.min-lanes.result in
    let here : min l.x c.args.w ≡ l.x = omega (arith, c.loop-x-test.true) in
    let next : l.x + n ≡ c.args.w = omega (arith, c.min-lanes.ensures, c.loop-x-test.true) in
    ap turned (rw next at (cols_more (bytes_local c.args.kernel) c.requires.area.wide n (rw here at l.invariant.0) (omega arith) c.columns.ensures).passed)
