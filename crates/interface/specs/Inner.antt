-- The parts of the C interface: what only inner contracts and proofs cite.
--
--   header_in a == the header of a reading; under a refusal every number of it is 0
--
-- Assumes nothing: these are definitions.
use Rattle.std.specs.Prelude.{Result, Ok, Err}
use Rattle.refusal.specs.declared.Refusal.{Refusal}
use Rattle.codestream.specs.Reading.{no_shot}
use Rattle.header_reader.specs.declared.Header.{Header}
use Rattle.header_reader.specs.Answers.{header_for}
use Rattle.decoder.specs.declared.Reading.{Reading}

abbrev pub header_in : Result Reading Refusal → Header
header_in (Ok a) = a.header
header_in (Err r) = header_for no_shot
