-- What the writer answers, in numbers (docs/FORMAT.md, "Calls").
--
--   numbers_of r == the result numbers of an answer
--
-- Assumes nothing: these are definitions.
use Rattle.std.specs.Prelude.{Result, Ok, Err}
use Rattle.refusal.specs.Numbers.{refusal_number, needed_length}
use Rattle.refusal.specs.declared.Refusal.{Refusal}
use Rattle.codestream.specs.Writing.{Numbers}
use Rattle.encoder.specs.declared.Lengths.{Lengths}

abbrev pub numbers_of : Result Lengths Refusal → Numbers
numbers_of (Ok n) = record { refusal = 0; total = n.total; region_mark = n.region_mark; marks = n.marks }
numbers_of (Err r) = record { refusal = refusal_number r; total = needed_length r; region_mark = 0; marks = 0 }
