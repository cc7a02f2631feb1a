-- `header::four_bytes` reads a number of four bytes. Assumes nothing.
use mathlib.Core.Path.{refl}
use native.Mathlib.Omega.{arith}
use Rattle.header.proofs.Numbers.{four_is}
use Rattle.header.proofs.four_bytes.Goals as goal

pub returns : goal.returns
returns c = record { value = rw (four_is, ← c.two_bytes.ensures.value, ← c.two_bytes-2.ensures.value) refl; upper_bound = omega (arith, c.two_bytes.ensures.upper_bound, c.two_bytes-2.ensures.upper_bound) }
