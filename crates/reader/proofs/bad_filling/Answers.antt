use mathlib.Core.Path.{◌≡◌}
use Prim.Native.Nat.{◌+◌, ◌-◌}
use native.Mathlib.Omega.{arith}
use Rattle.reader.proofs.Filling.{clean_start, clean_more, bad_cut, bad_further, bad_bit, bad_none}
use Rattle.reader.proofs.bad_filling.Goals as goal

pub returns-then-bits-end : goal.returns-then-bits-end
returns-then-bits-end c = bad_cut _ _ c.if-bits-end.true

pub returns-then-end-body : goal.returns-then-end-body
returns-then-end-body c = bad_further _ _ c.if-bits-end.false c.if-end-body.true

pub loop-p-init : goal.loop-p-init
loop-p-init c = let e : c.args.end - c.args.end ≡ 0 = omega arith in rw e (clean_start _ _)

pub returns-then-bit-ne0 : goal.returns-then-bit-ne0
returns-then-bit-ne0 c = let p = c.loop-p.p in let d : c.args.end + (p - c.args.end) ≡ p = omega arith in
    bad_bit _ _ c.if-bits-end.false {k = p - c.args.end} {b = c.bit.result} (omega arith) (rw d c.bit.ensures) (λ z. omega arith)

pub loop-p-preserved : goal.loop-p-preserved
loop-p-preserved c = let p = c.loop-p.p in let d : c.args.end + (p - c.args.end) ≡ p = omega arith in let e : p + 1 - c.args.end ≡ p - c.args.end + 1 = omega arith in
    rw e (clean_more _ _ {b = c.bit.result} c.loop-p.invariant (omega arith) (rw d c.bit.ensures) (omega arith))

pub returns : goal.returns
returns c = bad_none _ _ c.if-bits-end.false c.if-end-body.false (omega arith) c.loop-p.invariant
