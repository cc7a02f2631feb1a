-- What the cutter of codestreams answers and leaves in its buffers (docs/FORMAT.md, "Cutting", "Refusals" and "Calls").
--
--   bad_cut l c              == 15: wanted length below the region mark or above the stream, or marked part not whole
--   cut_tests l n m c o      == the refusals of the call: those of the reader, then 15, 11; n, m and o are the lengths of plane, mask and stream buffer
--   length_tests l c o       == those behind the reader's: 15, 11
--   Numbers                  == the call's result numbers: refusal, length (under 11 the needed one)
--   numbers_under f c        == the result numbers, where f is the number of the first test that holds
--   stream_under f l c out   == the stream buffer then; bytes past the wanted length keep what they held
--   cut_numbers l n m c o    == the result numbers of the call; plane and mask hold the reader's answer
--   stream_after l n m c out == the stream buffer after the call
--   Bytes l                  == each number of l is a byte
--
-- Assumes nothing: these are definitions.
use Rattle.std.specs.Prelude.{Bool, not, ◌||◌, List, [], ◌∷◌, ◌++◌, ℕ, ◌<◌, ltb, eqb, length, drop, get_or}
use Rattle.line.specs.Cells.{choose}
use Rattle.refusal.specs.Numbers.{Test, test, first}
use Rattle.header.specs.Arrival.{cut_to}
use Rattle.codestream.specs.Reading.{answer_of, read_tests}

abbrev pub bad_cut : List ℕ → ℕ → Bool
bad_cut l c = not (answer_of l).whole || ltb c (answer_of l).region_mark || ltb (length l) c

abbrev pub length_tests : List ℕ → ℕ → ℕ → List Test
length_tests l c o = test (bad_cut l c) 15 ∷ test (ltb o c) 11 ∷ []

abbrev pub cut_tests : List ℕ → ℕ → ℕ → ℕ → ℕ → List Test
cut_tests l n m c o = read_tests l n m ++ length_tests l c o

pub record Numbers : Type 0 where
  pub refusal : ℕ
  pub length : ℕ

abbrev pub numbers_under : ℕ → ℕ → Numbers
numbers_under f c = record { refusal = f; length = choose (eqb f 0 || eqb f 11) c 0 }

-- bytes past the wanted length keep what they held
abbrev pub stream_under : ℕ → List ℕ → ℕ → List ℕ → List ℕ
stream_under f l c out = choose (eqb f 0) (cut_to l c ++ drop c out) out

abbrev pub cut_numbers : List ℕ → ℕ → ℕ → ℕ → ℕ → Numbers
cut_numbers l n m c o = numbers_under (first (cut_tests l n m c o)) c

abbrev pub stream_after : List ℕ → ℕ → ℕ → ℕ → List ℕ → List ℕ
stream_after l n m c out = stream_under (first (cut_tests l n m c (length out))) l c out

abbrev pub Bytes : List ℕ → Type 0
Bytes l = (i : ℕ) → get_or l i 0 < 256
