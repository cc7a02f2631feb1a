-- Showing a stream in working memory for pictures to 64 by 64 (docs/FORMAT.md, "The program showshot").
--
--   room_for l n       == the length of the buffers that the stream l is read into, where n samples can be shown: W · H, if the header is
--                         not refused with 12 and the picture is within 64 by 64 and n, else 0
--   shown_after l held == what the lent buffer then holds: the shown samples in front and behind them what it held, under a refusal what it held
--
-- Assumes nothing: these are definitions.
use Rattle.std.specs.Prelude.{◌&&◌, List, ◌++◌, ℕ, ◌*◌, leb, length, drop}
use Rattle.line.specs.Cells.{choose, listed}
use Rattle.refusal.specs.Numbers.{accepted}
use Rattle.header.specs.Header.{bad_header}
use Rattle.header.specs.Fields.{shot_of}
use Rattle.codestream.specs.Reading.{read_tests}
use Rattle.exactness.specs.Shown.{shown_at}

abbrev pub room_for : List ℕ → ℕ → ℕ
room_for l n =
    let s = shot_of l in
    choose (bad_header l) 0 (choose (leb s.width 64 && leb s.height 64 && leb (s.width * s.height) n) (s.width * s.height) 0)

abbrev pub shown_after : List ℕ → List ℕ → List ℕ
shown_after l held =
    let m = room_for l (length held) in
    choose (accepted (read_tests l m m)) (listed m (shown_at l) ++ drop m held) held
