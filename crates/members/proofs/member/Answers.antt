-- `members::member` is 1 for a coefficient of the class, else 0. Assumes nothing.
use Rattle.bitplane.proofs.Classes.{class_test}
use Rattle.members.proofs.member.Goals as goal

pub returns : goal.returns
returns c = rw (class_test c.args.mask.now c.args.c c.args.i c.requires) at c.one.ensures
