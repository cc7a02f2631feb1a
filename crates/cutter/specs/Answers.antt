-- What the cutter answers, in numbers (docs/FORMAT.md, "Calls").
--
--   numbers_of r == the result numbers of an answer
--
-- Assumes nothing: these are definitions.
use Rattle.std.specs.Prelude.{ℕ, Result, Ok, Err}
use Rattle.refusal.specs.Numbers.{refusal_number, needed_length}
use Rattle.refusal.specs.declared.Refusal.{Refusal}
use Rattle.codestream.specs.Cutting.{Numbers}

abbrev pub numbers_of : Result ℕ Refusal → Numbers
numbers_of (Ok n) = record { refusal = 0; length = n }
numbers_of (Err r) = record { refusal = refusal_number r; length = needed_length r }
