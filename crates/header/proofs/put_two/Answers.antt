-- `header::put_two` writes a number of two bytes. Assumes nothing.
use Rattle.header.proofs.Writing.{laid_two}
use Rattle.header.proofs.put_two.Goals as goal

pub returns : goal.returns
returns c = laid_two _ _ c.put_byte.ensures c.put_byte-2.ensures
