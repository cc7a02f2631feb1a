-- The parts of showing: what only inner contracts and proofs cite.
--
--   samples_after l held == what a buffer of that length then holds: the shown samples, under a refusal what it held
--
-- Assumes nothing: these are definitions.
use Rattle.std.specs.Prelude.{List, ℕ, length}
use Rattle.line.specs.Cells.{choose, listed}
use Rattle.refusal.specs.Numbers.{accepted}
use Rattle.codestream.specs.Reading.{read_tests}
use Rattle.exactness.specs.Shown.{shown_at}

abbrev pub samples_after : List ℕ → List ℕ → List ℕ
samples_after l held = choose (accepted (read_tests l (length held) (length held))) (listed (length held) (shown_at l)) held
