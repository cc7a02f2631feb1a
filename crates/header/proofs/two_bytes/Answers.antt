-- `header::two_bytes` reads a number of two bytes. Assumes nothing.
use mathlib.Core.Path.{refl}
use native.Mathlib.Omega.{arith}
use Rattle.header.proofs.Numbers.{two_is}
use Rattle.header.proofs.two_bytes.Goals as goal

pub returns : goal.returns
returns c = record { value = rw (two_is, ← c.one_byte.ensures.value, ← c.one_byte-2.ensures.value) refl; upper_bound = omega (arith, c.one_byte.ensures.upper_bound, c.one_byte-2.ensures.upper_bound) }
