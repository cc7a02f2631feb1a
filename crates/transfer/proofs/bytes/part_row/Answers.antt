-- `transfer::bytes::part_row` parts a row of bytes in place. Assumes nothing.
use Rattle.transfer.proofs.bytes.part_row.Goals as goal

pub returns : goal.returns
returns c = let a = c.args in c.part.ensures a.buf.now a.at c.pair_up.ensures
