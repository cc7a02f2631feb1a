-- The result numbers of a call in the caller's array, which may have any length (docs/FORMAT.md, "Calls").
--
--   GivenAt at vs l l'   == l' is l with the numbers vs from place `at` on, as far as it reaches
--   Given vs l l'        == that, from the first place on
--   write_results n      == of `write`: total length (under 11 the needed one), region mark, number of marks
--   body_numbers n       == of `read`: marks, whole (1 or 0), region mark, q
--   header_numbers s     == kernel, J, D, W, H, T, k, of the header
--   shot_results s       == of `header`: these, and 128 rectangle numbers, 0 behind the last
--   read_results n s     == of `read`: the body's numbers, and these
--   cut_results n        == of `cut`: the length (under 11 the needed one)
--   body_results l       == of `body`: where the body begins in the stream, and its length
--   arrival_results n    == of `arrived`: the length that was sent
--   brightness_results n == of `brightness`: number, sum, quotient, remainder
--   library_version      == of `version`: 10,000 times the major number, 100 times the minor one, and the patch
--
-- Assumes nothing: these are definitions.
use Rattle.std.specs.Prelude.{◌≡◌, List, [], ◌∷◌, ◌++◌, ℕ, ◌+◌, ◌*◌, ◌/◌, ◌<◌, ◌≤◌, length, get_or}
use Rattle.line.specs.Cells.{choose, listed}
use Rattle.refusal.specs.Numbers.{accepted}
use Rattle.header.specs.Header.{front_length, body_tests, body_of}
use Rattle.header.specs.Fields.{Shot}
use Rattle.header.specs.Arrival as arrival
use Rattle.brightness.specs.Brightness as brightness
use Rattle.codestream.specs.Writing as writing
use Rattle.codestream.specs.Reading as reading
use Rattle.codestream.specs.Cutting as cutting

pub record GivenAt (at : ℕ) (vs l l' : List ℕ) : Type 0 where
  pub size : length l' ≡ length l
  pub on : (i : ℕ) → i < length vs → at + i < length l → get_or l' (at + i) 0 ≡ get_or vs i 0
  pub before : (i : ℕ) → i < at → get_or l' i 0 ≡ get_or l i 0
  pub behind : (i : ℕ) → at + length vs ≤ i → get_or l' i 0 ≡ get_or l i 0

abbrev pub Given : List ℕ → List ℕ → List ℕ → Type 0
Given = GivenAt 0

abbrev pub write_results : writing.Numbers → List ℕ
write_results n = n.total ∷ n.region_mark ∷ n.marks ∷ []

abbrev pub body_numbers : reading.Numbers → List ℕ
body_numbers n = n.marks ∷ choose n.whole 1 0 ∷ n.region_mark ∷ n.q ∷ []

abbrev pub header_numbers : Shot → List ℕ
header_numbers s = s.kernel ∷ s.levels ∷ s.depth ∷ s.width ∷ s.height ∷ s.planes ∷ length s.rectangles / 4 ∷ []

abbrev pub shot_results : Shot → List ℕ
shot_results s = header_numbers s ++ listed 128 (λ i. get_or s.rectangles i 0)

abbrev pub read_results : reading.Numbers → Shot → List ℕ
read_results n s = body_numbers n ++ shot_results s

abbrev pub cut_results : cutting.Numbers → List ℕ
cut_results n = n.length ∷ []

abbrev pub body_results : List ℕ → List ℕ
body_results l = choose (accepted (body_tests l)) (front_length l) 0 ∷ length (body_of l) ∷ []

abbrev pub arrival_results : arrival.Numbers → List ℕ
arrival_results n = n.sent ∷ []

abbrev pub brightness_results : brightness.Numbers → List ℕ
brightness_results n = n.number ∷ n.sum ∷ n.quotient ∷ n.remainder ∷ []

abbrev pub library_version : ℕ
library_version = 10000 * 1 + 100 * 3 + 1
