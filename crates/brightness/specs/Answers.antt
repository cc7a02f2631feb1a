-- What `brightness` answers, in numbers (docs/FORMAT.md, "Calls").
--
--   numbers_of r == the result numbers of an answer
--
-- Assumes nothing: these are definitions.
use Rattle.std.specs.Prelude.{Result, Ok, Err}
use Rattle.refusal.specs.Numbers.{refusal_number}
use Rattle.refusal.specs.declared.Refusal.{Refusal}
use Rattle.brightness.specs.Brightness.{Numbers, refused_with}
use Rattle.brightness.specs.declared.Figures.{Figures}

abbrev pub numbers_of : Result Figures Refusal → Numbers
numbers_of (Ok b) = record { refusal = 0; number = b.number; sum = b.sum; quotient = b.quotient; remainder = b.remainder }
numbers_of (Err r) = refused_with (refusal_number r)
