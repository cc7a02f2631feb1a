-- What the writer of codestreams answers and leaves in its buffers (docs/FORMAT.md, "Refusals" and "Calls").
--
--   shot_for k J D W H rs l == the shot of a plane l, with the setting and the rectangle numbers of the call
--   write_tests s l m n     == the refusals of the call, in order: 1, 2, 3, 4, 7, 8, 5, 10, 11;
--                              m and n are the lengths of the mask buffer and of the stream buffer
--   other_tests s l m n     == those behind the setting's
--   room_test s l n         == the last of them, 11
--   Numbers                 == the call's result numbers: refusal, total length (under 11 the needed one), region mark, number of marks
--   mask_filled f           == where f is the number of the first test that holds, the mask is filled
--   numbers_under f s l     == the result numbers, where f is the number of the first test that holds
--   mask_under f s mask     == the mask buffer then
--   stream_under f s l out  == the stream buffer then; bytes past the total keep what they held
--   write_numbers s l m n   == the result numbers of the call
--   mask_after s l n mask   == the mask buffer after the call
--   stream_after s l m out  == the stream buffer after the call
--
-- Assumes nothing: these are definitions.
use Rattle.std.specs.Prelude.{Bool, ◌||◌, List, [], ◌∷◌, ◌++◌, ℕ, ltb, eqb, ℤ, length, drop}
use Rattle.line.specs.Cells.{choose}
use Rattle.refusal.specs.Numbers.{Test, test, first}
use Rattle.refusal.specs.Tests.{bad_length, bad_magnitude}
use Rattle.scan.specs.Scan.{plane_count}
use Rattle.header.specs.Fields.{Shot}
use Rattle.shot.specs.Shots.{shot_mask, marks, setting_tests, rectangle_tests}
use Rattle.codestream.specs.Stream.{total_length, region_mark, stream}

abbrev pub shot_for : ℕ → ℕ → ℕ → ℕ → ℕ → List ℕ → List ℤ → Shot
shot_for k J D W H rs l = record { kernel = k; levels = J; depth = D; width = W; height = H; planes = plane_count l; rectangles = rs }

abbrev pub room_test : Shot → List ℤ → ℕ → List Test
room_test s l n = test (ltb n (total_length s l)) 11 ∷ []

abbrev pub other_tests : Shot → List ℤ → ℕ → ℕ → List Test
other_tests s l m n =
    rectangle_tests s.width s.height s.rectangles
    ++ (test (bad_length s.width s.height (length l)) 5 ∷ test (bad_length s.width s.height m) 5 ∷ test (bad_magnitude l) 10 ∷ room_test s l n)

abbrev pub write_tests : Shot → List ℤ → ℕ → ℕ → List Test
write_tests s l m n = setting_tests s.kernel s.levels s.depth s.width s.height ++ other_tests s l m n

pub record Numbers : Type 0 where
  pub refusal : ℕ
  pub total : ℕ
  pub region_mark : ℕ
  pub marks : ℕ

-- the mask is drawn before the stream's room is asked for
abbrev pub mask_filled : ℕ → Bool
mask_filled f = eqb f 0 || eqb f 11

abbrev pub numbers_under : ℕ → Shot → List ℤ → Numbers
numbers_under f s l = record {
  refusal = f;
  total = choose (mask_filled f) (total_length s l) 0;
  region_mark = choose (eqb f 0) (region_mark s l) 0;
  marks = choose (eqb f 0) (marks s) 0;
}

abbrev pub mask_under : ℕ → Shot → List ℕ → List ℕ
mask_under f s mask = choose (mask_filled f) (shot_mask s) mask

-- bytes past the total keep what they held
abbrev pub stream_under : ℕ → Shot → List ℤ → List ℕ → List ℕ
stream_under f s l out = choose (eqb f 0) (stream s l ++ drop (total_length s l) out) out

abbrev pub write_numbers : Shot → List ℤ → ℕ → ℕ → Numbers
write_numbers s l m n = numbers_under (first (write_tests s l m n)) s l

abbrev pub mask_after : Shot → List ℤ → ℕ → List ℕ → List ℕ
mask_after s l n mask = mask_under (first (write_tests s l (length mask) n)) s mask

abbrev pub stream_after : Shot → List ℤ → ℕ → List ℕ → List ℕ
stream_after s l m out = stream_under (first (write_tests s l m (length out))) s l out
