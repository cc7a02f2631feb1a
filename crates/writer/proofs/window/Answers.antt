-- `writer::window` loses no bit. Assumes nothing.
use mathlib.Core.Path.{◌≡◌}
use Prim.Native.Nat.{ℕ, ◌+◌, ◌-◌, ◌*◌, ◌/◌, ◌%◌, ◌^◌, ◌<◌, ◌≤◌}
use native.Mathlib.Omega.{arith}
use lib.Arith.{digits_lt}
use lib.Pow.{pow-add, shl_exact, shr_lt}
use Rattle.writer.proofs.window.Goals as goal

module _ (old o number n : ℕ) (byte : old < 256) (h : o < 8) (most : n ≤ 32) (digits : number < 2 ^ n) where
  kept : old / 2 ^ (8 - o) < 2 ^ o
  kept = let e : o + (8 - o) ≡ 8 = omega arith in shr_lt o (8 - o) (rw e byte)

  exact : old / 2 ^ (8 - o) * 2 ^ n % 2 ^ 64 ≡ old / 2 ^ (8 - o) * 2 ^ n
  exact = shl_exact o n 64 kept (omega arith)

  few : old / 2 ^ (8 - o) * 2 ^ n + number < 2 ^ (o + n)
  few = rw (pow-add 2 o n) (digits_lt kept digits)

pub returns : goal.returns
returns c = let a = c.args in let p = c.requires in rw (exact a.old a.o a.number a.n c.ranges.old.fits p.0 p.1 p.2) (shl_exact (a.o + a.n) (40 - (a.o + a.n)) 64 (few a.old a.o a.number a.n c.ranges.old.fits p.0 p.1 p.2) (omega arith))
