-- What the reader of codestreams answers and leaves in its buffers (docs/FORMAT.md, "Reading", "Refusals" and "Calls").
--
--   answer_of l              == what the body of the stream l gives, under the mask that its header's rectangles make
--   plane_of l               == its coefficients, row by row
--   bad_planes T             == 14: T above 22
--   shot_tests s             == the refusals of what a header says of a shot, behind those of its setting: 7, 8, 14
--   header_tests l           == the refusals of a header, in order: 12, 13, 1, 2, 3, 4, 7, 8, 14
--   read_tests l n m         == the refusals of the call, in order: 12, 13, 1, 2, 3, 4, 7, 8, 14, 5, 16;
--                               n and m are the lengths of the plane buffer and of the mask buffer
--   buffer_tests l n m       == those behind the header's
--   filling_test l           == the last of them, 16
--   Numbers                  == the call's result numbers: refusal, marks, whole, region mark, q
--   no_shot                  == the header under a refusal: every number 0
--   numbers_under f l        == the result numbers, where f is the number of the first test that holds
--   shot_under f l           == the header then
--   held_under o f done held == a buffer then: under 16 it holds zeros, under another refusal what it held
--   read_numbers l n m       == the result numbers of the call
--   shot_read l n m          == the header that it returns
--   plane_after l m plane    == the plane buffer after the call
--   mask_after l n mask      == the mask buffer after the call
--   ReadBack x s l p b       == reading the stream x into the buffers p and b gives the shot s, its marks and mask, the plane l, whole, its region mark, q = 0
--
-- Assumes nothing: these are definitions.
use Rattle.std.specs.Prelude.{Bool, false, true, List, [], ◌∷◌, ◌++◌, ◌≡◌, ℕ, ltb, eqb, ℤ, pos, length, replicate}
use Rattle.line.specs.Cells.{choose, listed}
use Rattle.bitplane.specs.Reader.{received, Answer, answer, bad_filling}
use Rattle.refusal.specs.Numbers.{Test, test, first}
use Rattle.refusal.specs.Tests.{bad_length}
use Rattle.header.specs.Header.{front_length, body_tests, body_of}
use Rattle.header.specs.Fields.{Shot, shot_of}
use Rattle.shot.specs.Shots.{shot_mask, marks, setting_tests, rectangle_tests}
use Rattle.codestream.specs.Stream.{area, marked_passes, unmarked_passes, region_mark}

abbrev pub answer_of : List ℕ → Answer
answer_of l = let s = shot_of l in answer (front_length l) (received (body_of l)) (area s) (marked_passes s) (unmarked_passes s)

abbrev pub plane_of : List ℕ → List ℤ
plane_of l = listed (area (shot_of l)) (answer_of l).value

abbrev pub bad_planes : ℕ → Bool
bad_planes T = ltb 22 T

abbrev pub filling_test : List ℕ → List Test
filling_test l = test (bad_filling (body_of l) (answer_of l).end) 16 ∷ []

abbrev pub buffer_tests : List ℕ → ℕ → ℕ → List Test
buffer_tests l n m =
    let s = shot_of l in
    test (bad_length s.width s.height n) 5 ∷ test (bad_length s.width s.height m) 5 ∷ filling_test l

abbrev pub shot_tests : Shot → List Test
shot_tests s = rectangle_tests s.width s.height s.rectangles ++ (test (bad_planes s.planes) 14 ∷ [])

abbrev pub header_tests : List ℕ → List Test
header_tests l = let s = shot_of l in body_tests l ++ (setting_tests s.kernel s.levels s.depth s.width s.height ++ shot_tests s)

abbrev pub read_tests : List ℕ → ℕ → ℕ → List Test
read_tests l n m = header_tests l ++ buffer_tests l n m

pub record Numbers : Type 0 where
  pub refusal : ℕ
  pub marks : ℕ
  pub whole : Bool
  pub region_mark : ℕ
  pub q : ℕ

abbrev pub numbers_under : ℕ → List ℕ → Numbers
numbers_under f l =
    let a = answer_of l in
    record {
      refusal = f;
      marks = choose (eqb f 0) (marks (shot_of l)) 0;
      whole = choose (eqb f 0) a.whole false;
      region_mark = choose (eqb f 0) a.region_mark 0;
      q = choose (eqb f 0) a.q 0;
    }

abbrev pub no_shot : Shot
no_shot = record { kernel = 0; levels = 0; depth = 0; width = 0; height = 0; planes = 0; rectangles = [] }

abbrev pub shot_under : ℕ → List ℕ → Shot
shot_under f l = choose (eqb f 0) (shot_of l) no_shot

abbrev pub held_under : {A : Type 0} → A → ℕ → List A → List A → List A
held_under o f done held = choose (eqb f 0) done (choose (eqb f 16) (replicate (length held) o) held)

abbrev pub read_numbers : List ℕ → ℕ → ℕ → Numbers
read_numbers l n m = numbers_under (first (read_tests l n m)) l

abbrev pub shot_read : List ℕ → ℕ → ℕ → Shot
shot_read l n m = shot_under (first (read_tests l n m)) l

abbrev pub plane_after : List ℕ → ℕ → List ℤ → List ℤ
plane_after l m plane = held_under (pos 0) (first (read_tests l (length plane) m)) (plane_of l) plane

abbrev pub mask_after : List ℕ → ℕ → List ℕ → List ℕ
mask_after l n mask = held_under 0 (first (read_tests l n (length mask))) (shot_mask (shot_of l)) mask

pub record ReadBack (x : List ℕ) (s : Shot) (l p : List ℤ) (b : List ℕ) : Type 0 where
  pub numbers : read_numbers x (length p) (length b) ≡ record { refusal = 0; marks = marks s; whole = true; region_mark = region_mark s l; q = 0 }
  pub shot : shot_read x (length p) (length b) ≡ s
  pub plane : plane_after x (length b) p ≡ l
  pub mask : mask_after x (length p) b ≡ shot_mask s
