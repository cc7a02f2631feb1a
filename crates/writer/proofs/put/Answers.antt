-- `writer::put` writes digits behind the bits of a buffer: the bytes of a window, as many as the digits reach. Assumes nothing.
use native.Mathlib.Omega.{arith}
use Rattle.writer.proofs.Bits.{stored_1, stored_2, stored_3, stored_4, stored_5, put_done}
use Rattle.writer.proofs.put.Goals as goal

pub returns-then-end-le8 : goal.returns-then-end-le8
returns-then-end-le8 c = put_done _ _ _ _ _ c.requires (omega arith) c.window-x.ensures 1 (stored_1 c.byte.ensures (omega arith)) (omega arith) (omega arith)

pub returns-then-end-le16 : goal.returns-then-end-le16
returns-then-end-le16 c = put_done _ _ _ _ _ c.requires (omega arith) c.window-x.ensures 2 (stored_2 c.byte.ensures c.byte-2.ensures (omega arith)) (omega arith) (omega arith)

pub returns-then-end-le24 : goal.returns-then-end-le24
returns-then-end-le24 c = put_done _ _ _ _ _ c.requires (omega arith) c.window-x.ensures 3 (stored_3 c.byte.ensures c.byte-2.ensures c.byte-3.ensures (omega arith)) (omega arith) (omega arith)

pub returns-then-end-le32 : goal.returns-then-end-le32
returns-then-end-le32 c = put_done _ _ _ _ _ c.requires (omega arith) c.window-x.ensures 4 (stored_4 c.byte.ensures c.byte-2.ensures c.byte-3.ensures c.byte-4.ensures (omega arith)) (omega arith) (omega arith)

pub returns : goal.returns
returns c = put_done _ _ _ _ _ c.requires (omega arith) c.window-x.ensures 5 (stored_5 c.byte.ensures c.byte-2.ensures c.byte-3.ensures c.byte-4.ensures c.byte-5.ensures (omega arith)) (omega arith) (omega arith)
