-- `refusal::any_cell` says whether a test holds of any cell. Assumes nothing.
use Rattle.std.proofs.Common.{ℕ, Bool, length}
use Rattle.refusal.specs.Parts.{part_size, in_parts, Tells}
use Rattle.refusal.proofs.Scans.{Scanned}
use Rattle.refusal.proofs.any_cell.Given as goal

abbrev pub invariant-loop-i : goal.invariant-loop-i
invariant-loop-i g l = (o : _) (f : ℕ → Bool) → Tells (goal.F-post g l.test) o f l.cells → Scanned (in_parts (length l.cells) f) (part_size (length l.cells)) l.i l.found
