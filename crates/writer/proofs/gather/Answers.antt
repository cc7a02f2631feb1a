use mathlib.Core.Path.{◌≡◌}
use Prim.Native.Nat.{◌+◌}
use native.Mathlib.Omega.{arith}
use Rattle.line.specs.Cells.{cell}
use Rattle.bitplane.specs.Body.{class, one_plane}
use Rattle.writer.proofs.Runs.{run_start, run_next, run_many, run_small, gives_few}
use Rattle.writer.proofs.gather.Goals as goal

pub loop-digits-init : goal.loop-digits-init
loop-digits-init c = run_start _ _ _

pub overflow_shl-number : goal.overflow_shl-number
overflow_shl-number c = let l = c.loop-digits in let e = c.each.ensures.digits l.digits-index (record { number = 0; count = 0 }) (omega arith) in
    omega (arith, gives_few c.args.pass.now (c.args.i + l.digits-index) e)

pub overflow_add-number : goal.overflow_add-number
overflow_add-number c = let l = c.loop-digits in let e = c.each.ensures.digits l.digits-index (record { number = 0; count = 0 }) (omega arith) in
    omega (arith, run_small _ _ _ (l.digits-index + 1) 32 (omega arith) (run_next _ _ _ l.digits-index 30 (run_small _ _ _ l.digits-index 30 (omega arith) l.invariant) l.invariant e.value e.many))

pub overflow_add-count : goal.overflow_add-count
overflow_add-count c = let l = c.loop-digits in let e = c.each.ensures.digits l.digits-index (record { number = 0; count = 0 }) (omega arith) in
    let s = c.args.pass.now in
    let next = run_next _ _ _ l.digits-index 30 (run_small _ _ _ l.digits-index 30 (omega arith) l.invariant) l.invariant e.value e.many in
    omega (arith, next.many, run_many (one_plane (class s.mask.now s.class) s.t) (cell s.plane.now) c.args.i (l.digits-index + 1))

pub loop-digits-preserved : goal.loop-digits-preserved
loop-digits-preserved c = let l = c.loop-digits in let e = c.each.ensures.digits l.digits-index (record { number = 0; count = 0 }) (omega arith) in
    run_next _ _ _ l.digits-index 30 (run_small _ _ _ l.digits-index 30 (omega arith) l.invariant) l.invariant e.value e.many

pub returns : goal.returns
returns c = let e : c.loop-digits.digits-index ≡ 16 = omega arith in rw e at c.loop-digits.invariant
