-- `members::flag` is a flag. Assumes nothing.
use Rattle.members.proofs.Index.{flag_test}
use Rattle.members.proofs.flag.Goals as goal

pub returns-else-mask-i : goal.returns-else-mask-i
returns-else-mask-i c = flag_test _ c.among.ensures
