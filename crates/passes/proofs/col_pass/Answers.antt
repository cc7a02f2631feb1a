use mathlib.Core.Path.{◌≡◌, ap}
use Prim.Native.Nat.{◌+◌, ◌/◌}
use native.Mathlib.Omega.{arith}
use lib.IntN.{pos}
use Rattle.line.proofs.Local.{forward_local}
use Rattle.grid.specs.Picture.{turned}
use Rattle.grid.proofs.Running.{cols_none, cols_more}
use Rattle.passes.proofs.Running.{area_same, col_in, col_size, some_lanes, col_takes}
use Rattle.passes.proofs.col_pass.Goals as goal

pub loop-x-init : goal.loop-x-init
loop-x-init c = let a = c.args in cols_none (pos 0) _ a.stride a.w a.h a.l.now a.q.now a.q.now

pub strip-requires : goal.strip-requires
strip-requires c = let l = c.loop-x in let i = l.invariant in let z = area_same c.requires.area i.same_l in let n = c.least-lanes in
    let some = some_lanes l.l z in record { h_nonzero = col_size l.l z n.result (omega (arith, c.requires.in_bounds, i.same_a)) (omega (arith, n.ensures)); in_buffer = col_in l.l z l.x n.result (omega (arith, n.ensures, some)) (omega (arith, n.ensures)); by_index = col_takes c.requires.area i c.requires.by_index n.result (omega (arith, n.ensures)) }

pub loop-x-preserved : goal.loop-x-preserved
loop-x-preserved c = let n = c.least-lanes in let k = c.strip.auto.q in
    let whole_strip : n.result ≡ 32768 / c.args.h = omega (arith, n.ensures) in
    rw whole_strip at (cols_more (forward_local c.args.kernel) c.requires.area.wide c.loop-x.invariant n.result (omega (arith, n.ensures)) c.strip.ensures k k)

pub returns-2 : goal.returns-2
returns-2 c = let a = c.args in let n = c.least-lanes in let k = c.strip.auto.q in
    let last_strip : c.loop-x.x + n.result ≡ a.w = omega (arith, n.ensures) in
    ap turned (rw last_strip at (cols_more (forward_local a.kernel) c.requires.area.wide c.loop-x.invariant n.result (omega (arith, n.ensures)) c.strip.ensures k k)).passed
