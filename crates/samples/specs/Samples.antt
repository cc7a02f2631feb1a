-- Bringing undone numbers into range, and dropping planes (docs/FORMAT.md, "Showing", "Truncation" and "Calls").
--
--   in_range D z             == z brought into 0 .. 2^D − 1: below to 0, above to the top
--   truncated q m z          == z, where it is marked, else dropped q z
--   show_tests D W H n m     == the refusals of showing, in order: 3, 4, 5
--   truncate_tests q W H l p == the refusals of truncation, of the mask l and the plane p: 3, 4, 5, 9, 10
--
-- Assumes nothing: these are definitions.
use Rattle.std.specs.Prelude.{Bool, List, [], ◌∷◌, ℕ, ◌-◌, ◌^◌, min, ℤ, pos, negsuc, length}
use Rattle.line.specs.Cells.{choose}
use Rattle.bitplane.specs.Bits.{dropped}
use Rattle.refusal.specs.Numbers.{Test, test}
use Rattle.refusal.specs.Tests.{bad_depth, bad_drop, bad_size, bad_length, bad_mark, bad_magnitude}

unfoldable pub in_range : ℕ → ℤ → ℕ
in_range D (pos a) = min a (2 ^ D - 1)
in_range D (negsuc a) = 0

abbrev pub truncated : ℕ → Bool → ℤ → ℤ
truncated q m z = choose m z (dropped q z)

-- n and s are the lengths of the undone and the shown buffer
abbrev pub show_tests : ℕ → ℕ → ℕ → ℕ → ℕ → List Test
show_tests D W H n s = test (bad_depth D) 3 ∷ test (bad_size W H) 4 ∷ test (bad_length W H n) 5 ∷ test (bad_length W H s) 5 ∷ []

abbrev pub truncate_tests : ℕ → ℕ → ℕ → List ℕ → List ℤ → List Test
truncate_tests q W H mask plane =
    test (bad_drop q) 3 ∷ test (bad_size W H) 4 ∷ test (bad_length W H (length mask)) 5 ∷ test (bad_length W H (length plane)) 5
    ∷ test (bad_mark mask) 9 ∷ test (bad_magnitude plane) 10 ∷ []
