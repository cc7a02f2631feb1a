-- Two buffers of region or mask bytes joined (docs/FORMAT.md, "Region and mask" and "Calls").
--
--   join_byte a b i      == the byte at place i of a and b joined: 1 where a or b has 1
--   join_tests W H a b n == the refusals of the call, in order: 4, 5, 9; n is the length of the buffer that is filled
--
-- Assumes nothing: these are definitions.
use Rattle.std.specs.Prelude.{◌||◌, List, [], ◌∷◌, ℕ, length, get_or}
use Rattle.line.specs.Mask.{marked, byte_of}
use Rattle.refusal.specs.Numbers.{Test, test}
use Rattle.refusal.specs.Tests.{bad_size, bad_length, bad_mark}

abbrev pub join_byte : List ℕ → List ℕ → ℕ → ℕ
join_byte a b i = byte_of (marked (get_or a i 0) || marked (get_or b i 0))

abbrev pub join_tests : ℕ → ℕ → List ℕ → List ℕ → ℕ → List Test
join_tests W H a b n =
    test (bad_size W H) 4 ∷ test (bad_length W H (length a)) 5 ∷ test (bad_length W H (length b)) 5 ∷ test (bad_length W H n) 5
    ∷ test (bad_mark a) 9 ∷ test (bad_mark b) 9 ∷ []
