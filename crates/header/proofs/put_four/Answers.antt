-- `header::put_four` writes a number of four bytes. Assumes nothing.
use Rattle.header.proofs.Writing.{laid_four}
use Rattle.header.proofs.put_four.Goals as goal

pub returns : goal.returns
returns c = laid_four _ _ c.put_two.ensures c.put_two-2.ensures
