-- `joining::join` joins two buffers of marks, or refuses. Assumes nothing.
use mathlib.Core.Path.{◌≡◌}
use mathlib.Core.Bool.{false}
use borrow.Author.Rules.{rules}
use Rattle.refusal.specs.Tests.{bad_mark}
use Rattle.picture_mask.proofs.Entry.{region_binary}
use Rattle.joining.proofs.join.Goals as goal

pub join_all-requires-clause-marks : goal.join_all-requires-clause-marks
join_all-requires-clause-marks c = let good : bad_mark c.args.one.now ≡ false = search rules in record { size = search rules; marks = region_binary _ good }

pub join_all-requires-clause-marks_2 : goal.join_all-requires-clause-marks_2
join_all-requires-clause-marks_2 c = let good : bad_mark c.args.other.now ≡ false = search rules in record { size = search rules; marks = region_binary _ good }
