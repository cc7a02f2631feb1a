-- `refusal::part_start` is where a part begins. Assumes nothing.
use Rattle.std.proofs.Common.{◌*◌, ◌≤◌, arith}
use native.Mathlib.Nat.{mul-le-mul_left, mul_comm}
use Rattle.refusal.proofs.Scans.{size_most}
use Rattle.refusal.proofs.part_start.Goals as goal

pub overflow_mul-p : goal.overflow_mul-p
overflow_mul-p c = let s = c.args in let z = c.part_size-size.result in let h : z * s.p ≤ z * 3 = mul-le-mul_left z (omega arith) in omega (arith, h, mul_comm z s.p, c.part_size-size.ensures.size, size_most s.n)
