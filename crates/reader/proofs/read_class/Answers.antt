-- `reader::read_class` reads the planes of a class. Assumes nothing.
use native.Mathlib.Omega.{arith}
use Rattle.bitplane.proofs.Empty.{class_empty}
use Rattle.reader.proofs.Planes.{unread_none, unread_past}
use Rattle.reader.proofs.Lists.{spare_zero}
use Rattle.reader.proofs.read_class.Goals as goal

pub returns-then-body-p : goal.returns-then-body-p
returns-then-body-p c = unread_past _ _ _ _ _ c.requires.top_bound.1.place c.if-body-p.true

pub returns-then-members-eq0 : goal.returns-then-members-eq0
returns-then-members-eq0 c = unread_none _ _ _ _ _ c.requires.top_bound.1.place (class_empty _ _ c.requires.top_bound.1.class (omega (arith, c.requires.members_value, c.if-members-eq0.true))) c.if-body-p.false

pub read_planes-requires : goal.read_planes-requires
read_planes-requires c = record { top_bound = (omega (arith, c.requires.top_bound.0), c.requires.top_bound.1); spare = spare_zero _ c.requires.top_bound.0 c.requires.top_bound.2 }
