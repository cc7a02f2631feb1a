-- `passes::place_pairs` copies pairs of rows from the plane. Assumes nothing.
use mathlib.Core.Path.{◌≡◌, ap₂}
use Prim.Native.Nat.{◌-◌, ◌/◌, min}
use lib.IntN.{pos}
use Rattle.line.proofs.Cells.{low_left}
use Rattle.passes.proofs.Running.{area_same}
use Rattle.passes.proofs.PairPlaces.{right_rows, high_rows_lem, pairs_placed}
use Rattle.passes.proofs.place_pairs.Goals as goal

pub copy_rows-requires : goal.copy_rows-requires
copy_rows-requires c = let a = c.args in rw (low_left a.w) (right_rows a.width a.stride a.w a.h a.a a.b a.plane.now a.l.now c.requires.a_le_b.1 c.requires.area c.requires.area_2)

pub copy_rows-requires-2 : goal.copy_rows-requires-2
copy_rows-requires-2 c = let count : let a = c.args in c.least.result - c.least-2.result ≡ min a.b (a.h / 2) - min a.a (a.h / 2) = ap₂ ◌-◌ c.least.ensures c.least-2.ensures in
    let a = c.args in rw (count, low_left a.h) (high_rows_lem a.width a.stride a.w a.h a.a a.b a.plane.now _ c.requires.a_le_b.1 c.requires.area (area_same c.requires.area_2 (c.copy_rows.ensures (pos 0)).size))

pub returns : goal.returns
returns c = let count : let a = c.args in c.least.result - c.least-2.result ≡ min a.b (a.h / 2) - min a.a (a.h / 2) = ap₂ ◌-◌ c.least.ensures c.least-2.ensures in
    let a = c.args in pairs_placed a.width a.stride a.w a.h a.a a.b a.plane.now a.l.now c.requires.a_le_b.1 c.requires.area c.requires.area_2 (rw (low_left a.w) at (c.copy_rows.ensures (pos 0))) (rw (count, low_left a.h) at (c.copy_rows-2.ensures (pos 0)))
