-- `transfer::take` takes a strip. Assumes nothing.
use Rattle.earlier_passes.proofs.Transfers.{take_room, take_whole}
use Rattle.earlier_passes.proofs.transfer.take.Goals as goal

pub copy-requires : goal.copy-requires
copy-requires c = take_room c.if-step-lanes.true c.requires.in_buffer c.requires.lanes_in_bounds

pub returns-then-step-lanes : goal.returns-then-step-lanes
returns-then-step-lanes c = take_whole c.if-step-lanes.true c.requires.in_buffer c.requires.lanes_in_bounds c.copy.ensures
