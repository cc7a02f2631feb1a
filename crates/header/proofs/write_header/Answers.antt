-- `header::write_header` writes a header field by field. Assumes nothing.
use Rattle.header.proofs.Writing.{header_laid}
use Rattle.header.proofs.write_header.Goals as goal

pub returns : goal.returns
returns c = header_laid _ _ c.put_four.ensures c.put_byte.ensures c.put_byte-2.ensures c.put_byte-3.ensures c.put_byte-4.ensures c.put_two.ensures c.put_two-2.ensures c.put_byte-5.ensures c.put_byte-6.ensures c.put_rectangles.ensures
