-- The header of a codestream as it is written into a buffer.
--
--   Laid at new l m    == m is l with the bytes new from place `at` on
--   Fit s total l      == the header of s in a stream of `total` bytes fits into the buffer l, and each value into its field
--   Headed s total l m == m is l with that header in front
--
-- Assumes nothing: these are definitions.
use Rattle.std.specs.Prelude.{◌≡◌, List, ℕ, ◌+◌, ◌*◌, ◌-◌, ◌<◌, ◌≤◌, length, get_or}
use Rattle.header.specs.Fields.{Shot, header}

pub record Laid (at : ℕ) (new l m : List ℕ) : Type 0 where
  pub len : length m ≡ length l
  pub inside : (i : ℕ) → i < length new → get_or m (at + i) 0 ≡ get_or new i 0
  pub before : (i : ℕ) → i < at → get_or m i 0 ≡ get_or l i 0
  pub behind : (i : ℕ) → at + length new ≤ i → get_or m i 0 ≡ get_or l i 0

pub record Fit (s : Shot) (total : ℕ) (l : List ℕ) : Type 0 where
  pub room : 14 + 2 * length s.rectangles ≤ length l
  pub long : 4 ≤ total
  pub all : total - 4 < 4294967296
  pub kernel : s.kernel < 256
  pub levels : s.levels < 256
  pub depth : s.depth < 256
  pub width : s.width < 65536
  pub height : s.height < 65536
  pub planes : s.planes < 256
  pub few : length s.rectangles < 1024
  pub each : (i : ℕ) → i < length s.rectangles → get_or s.rectangles i 0 < 65536

pub record Headed (s : Shot) (total : ℕ) (l m : List ℕ) : Type 0 where
  pub len : length m ≡ length l
  pub front : (i : ℕ) → i < 14 + 2 * length s.rectangles → get_or m i 0 ≡ get_or (header s total) i 0
  pub rest : (i : ℕ) → 14 + 2 * length s.rectangles ≤ i → get_or m i 0 ≡ get_or l i 0
