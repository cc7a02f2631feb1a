use Rattle.header_reader.proofs.Arrays.{taken_all}
use Rattle.header_reader.proofs.rectangle_numbers.Goals as goal

pub returns : goal.returns
returns c = taken_all _ _ c.loop-i.invariant c.loop-i-test.false
