-- What `arrived` answers, in numbers (docs/FORMAT.md, "Calls").
--
--   numbers_of r == the result numbers of an answer
--
-- Assumes nothing: these are definitions.
use Rattle.std.specs.Prelude.{ℕ, Result, Ok, Err}
use Rattle.refusal.specs.Numbers.{refusal_number}
use Rattle.refusal.specs.declared.Refusal.{Refusal}
use Rattle.header.specs.Arrival.{Numbers}

abbrev pub numbers_of : Result ℕ Refusal → Numbers
numbers_of (Ok n) = record { refusal = 0; sent = n }
numbers_of (Err r) = record { refusal = refusal_number r; sent = 0 }
