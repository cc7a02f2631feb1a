-- `transfer::put` puts a strip. Assumes nothing.
use Rattle.earlier_passes.proofs.Transfers.{put_room, put_whole}
use Rattle.earlier_passes.proofs.transfer.put.Goals as goal

pub copy-requires : goal.copy-requires
copy-requires c = put_room c.if-step-lanes.true c.requires.in_buffer c.requires.lanes_in_bounds

pub returns-then-step-lanes : goal.returns-then-step-lanes
returns-then-step-lanes c = put_whole c.if-step-lanes.true c.requires.in_buffer c.requires.lanes_in_bounds c.copy.ensures
