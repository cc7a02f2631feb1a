-- `transfer::put` puts a strip into a buffer. Assumes nothing.
use Rattle.transfer.proofs.Strips.{rows_put, put}
use Rattle.transfer.proofs.put.Goals as goal

pub copy_rows-requires : goal.copy_rows-requires
copy_rows-requires g c = rows_put c.requires.in_buffer c.requires.lanes_in_bounds

pub returns : goal.returns
returns g c = λ o. let a = c.args in put {s = a.start} {t = a.step} {m = a.m} {c = a.lanes} (c.copy_rows.ensures o)
