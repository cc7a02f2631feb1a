-- What the reader answers, in numbers (docs/FORMAT.md, "Reading" and "Calls").
--
--   is_whole m   == the marked part is whole: its region mark m is known
--   place_of m   == the region mark m, 0 where it is not known
--   found_in r   == the result numbers of what was found in a body, or of the refusal
--   numbers_of r == the result numbers of an answer
--
-- Assumes nothing: these are definitions.
use Rattle.std.specs.Prelude.{Bool, true, false, ℕ, Option, Some, None, Result, Ok, Err}
use Rattle.refusal.specs.Numbers.{refusal_number}
use Rattle.refusal.specs.declared.Refusal.{Refusal}
use Rattle.codestream.specs.Reading.{Numbers}
use Rattle.decoder.specs.declared.Body.{Body}
use Rattle.decoder.specs.declared.Reading.{Reading}

abbrev pub is_whole : Option ℕ → Bool
is_whole (Some n) = true
is_whole None = false

abbrev pub place_of : Option ℕ → ℕ
place_of (Some n) = n
place_of None = 0

abbrev pub found_in : Result Body Refusal → Numbers
found_in (Ok b) = record { refusal = 0; marks = b.marks; whole = is_whole b.region_mark; region_mark = place_of b.region_mark; q = b.missing }
found_in (Err r) = record { refusal = refusal_number r; marks = 0; whole = false; region_mark = 0; q = 0 }

abbrev pub numbers_of : Result Reading Refusal → Numbers
numbers_of (Ok a) = found_in (Ok a.body)
numbers_of (Err r) = found_in (Err r)
