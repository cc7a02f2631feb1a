-- `writer::write_class` writes the planes of a class that may have no member. Assumes nothing.
use native.Mathlib.Omega.{arith}
use Rattle.writer.proofs.Body.{class_none}
use Rattle.writer.proofs.write_class.Goals as goal

pub returns-then-members-eq0 : goal.returns-then-members-eq0
returns-then-members-eq0 c = class_none _ _ c.args.plane.now _ _ c.requires.top_bound.1.over (omega (arith, c.requires.members_value))
