-- `header::put_byte` writes a number of one byte. Assumes nothing.
use native.Mathlib.Omega.{arith}
use Rattle.header.proofs.Writing.{laid_byte}
use Rattle.header.proofs.put_byte.Goals as goal

pub returns : goal.returns
returns c = laid_byte _ _ _ (omega arith) c.requires.1
