-- `transfer::bytes::part` writes a row of bytes, parted. Assumes nothing.
use native.Mathlib.Omega.{arith}
use Rattle.transfer.proofs.Parting.{part_copied}
use Rattle.transfer.proofs.bytes.part.Goals as goal

pub returns : goal.returns
returns c = λ x from pairs. part_copied (λ k. omega (arith, c.type_inv.line k)) (omega arith) pairs c.bytes_of.ensures c.bytes_of-2.ensures
