-- `header::one_byte` reads a number of one byte. Assumes nothing.
use mathlib.Core.Path.{sym}
use native.Mathlib.Omega.{arith}
use Rattle.header.proofs.Numbers.{one_is}
use Rattle.header.proofs.one_byte.Goals as goal

pub returns : goal.returns
returns c = record { value = sym (one_is _ _); upper_bound = omega (arith, c.shared_slice_known-1.given c.args.at) }
