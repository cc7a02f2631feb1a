-- The header of a codestream (docs/FORMAT.md, "Header"), every number big-endian:
--
--     bytes  0 to 3        length of all that follows
--            4             version, 1
--            5             kernel
--            6             J
--            7             D
--            8 and 9       W
--           10 and 11      H
--           12             k, the number of rectangles
--           13             T, the number of bit planes
--           14 to 13 + 8k  x, y, width and height of each rectangle, 2 bytes each
--           14 + 8k on     the body
--
--   number n l at  == the number in the n bytes of l from `at` on
--   front_length l == 14 + 8k, the length before the body
--   bad_front l    == fewer than 14 bytes, or than 14 + 8k
--   bad_header l   == 12: that, or a length field other than the total less 4
--   bad_version l  == 13: version not 1
--   body_tests l   == the refusals of the body's part: 12, 13
--   body_of l      == the bytes that carry the body, none under a refusal
--
-- Assumes nothing: these are definitions.
use Rattle.std.specs.Prelude.{Bool, not, ◌||◌, List, [], ◌∷◌, ℕ, zero, suc, ◌+◌, ◌*◌, ltb, eqb, length, get_or, drop}
use Rattle.line.specs.Cells.{choose}
use Rattle.refusal.specs.Numbers.{Test, test, accepted}

unfoldable pub number : ℕ → List ℕ → ℕ → ℕ
number zero l at = 0
number (suc n) l at = number n l at * 256 + get_or l (at + n) 0

abbrev pub front_length : List ℕ → ℕ
front_length l = 14 + 8 * number 1 l 12

abbrev pub bad_front : List ℕ → Bool
bad_front l = ltb (length l) 14 || ltb (length l) (front_length l)

abbrev pub bad_header : List ℕ → Bool
bad_header l = bad_front l || not (eqb (number 4 l 0 + 4) (length l))

abbrev pub bad_version : List ℕ → Bool
bad_version l = not (eqb (number 1 l 4) 1)

abbrev pub body_tests : List ℕ → List Test
body_tests l = test (bad_header l) 12 ∷ test (bad_version l) 13 ∷ []

abbrev pub body_of : List ℕ → List ℕ
body_of l = choose (accepted (body_tests l)) (drop (front_length l) l) []
