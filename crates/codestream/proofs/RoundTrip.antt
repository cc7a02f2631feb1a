-- Reading a whole stream returns the plane that was written. Assumes nothing.
use mathlib.Core.Path.{◌≡◌, refl, sym, ap, ap₂, ◌∙◌, subst}
use mathlib.Core.Bool.{Bool, true, false}
use mathlib.Core.List.{List, [], ◌∷◌, ◌++◌}
use Prim.Native.Nat.{ℕ}
use lib.IntN.{ℤ}
use lib.ListN.{length}
use borrow.Author.Tests.{eq-eqb, eqb-true, le-ltb}
use Rattle.line.specs.Cells.{choose, listed}
use Rattle.bitplane.specs.Reader.{received, Answer, answer, bad_filling}
use Rattle.refusal.specs.Numbers.{Test, test, first, accepted}
use Rattle.refusal.specs.Tests.{bad_length}
use Rattle.refusal.proofs.Ordered.{accepted_join}
use Rattle.header.specs.Header.{body_tests, body_of}
use Rattle.header.specs.Fields.{Shot, shot_of}
use Rattle.shot.specs.Shots.{shot_mask, marks, setting_tests, rectangle_tests}
use Rattle.codestream.specs.Stream.{area, front, marked_passes, unmarked_passes, body_bits, packed, region_mark, stream}
use Rattle.codestream.specs.Writing.{shot_for, write_tests}
use Rattle.codestream.specs.Reading.{Numbers, answer_of, plane_of, bad_planes, read_tests, read_numbers, ReadBack}
use Rattle.codestream.proofs.Accepted.{taken, Writable, write_passed, planes_most}
use Rattle.codestream.proofs.Parts.{Parts, stream_parts}
use Rattle.codestream.proofs.Bodies.{body_answer, filled, body_whole, body_ends, body_plane}

-- ---- the reader's definitions over what it found: the shot s, the body's bytes b, which begin at `front` and end at bit e
abbrev pub last_tests : Shot → List ℕ → ℕ → ℕ → ℕ → List Test
last_tests s b e n m =
    test (bad_planes s.planes) 14 ∷ test (bad_length s.width s.height n) 5 ∷ test (bad_length s.width s.height m) 5 ∷ test (bad_filling b e) 16 ∷ []

abbrev pub tests_behind : Shot → List ℕ → ℕ → ℕ → ℕ → List Test
tests_behind s b e n m =
    setting_tests s.kernel s.levels s.depth s.width s.height ++ (rectangle_tests s.width s.height s.rectangles ++ last_tests s b e n m)

abbrev pub answer_from : ℕ → List ℕ → Shot → Answer
answer_from f b s = answer f (received b) (area s) (marked_passes s) (unmarked_passes s)

-- ---- an accepted call returns what it found
numbers_taken : (ok : Bool) (f k j r : ℕ) (a : Answer) → ok ≡ true → f ≡ 0 → k ≡ j → a.whole ≡ true → a.region_mark ≡ r → a.q ≡ 0
    → ◌≡◌ {A = Numbers} (record { refusal = f; marks = choose ok k 0; whole = choose ok a.whole false; region_mark = choose ok a.region_mark 0; q = choose ok a.q 0 })
    (record { refusal = 0; marks = j; whole = true; region_mark = r; q = 0 })
numbers_taken ok f k j r a o e d w m q = rw (o, e, d, w, m, q)

module _ {s : Shot} {l : List ℤ} (w : Writable s l) where
  accepted-tests_behind : (b : List ℕ) (e n m : ℕ) → n ≡ area s → m ≡ area s → bad_filling b e ≡ false → accepted (tests_behind s b e n m) ≡ true
  unfolding first
  accepted-tests_behind b e n m p q f =
      let drawing = rectangle_tests s.width s.height s.rectangles in
      let last : accepted (last_tests s b e n m) ≡ true = rw (le-ltb 22 s.planes (planes_most w), eq-eqb n (area s) p, eq-eqb m (area s) q, f) refl in
      accepted_join (drawing ++ last_tests s b e n m) (setting_tests s.kernel s.levels s.depth s.width s.height) w.setting (accepted_join (last_tests s b e n m) drawing w.drawing last)

  module _ {x : List ℕ} (p : Parts x s l) where
    pub answer_read : answer_of x ≡ body_answer s (packed (body_bits s l))
    answer_read = ap (λ (f : ℕ). answer_from f (body_of x) (shot_of x)) p.front ∙ ap (λ (b : List ℕ). answer_from (front s) b (shot_of x)) p.body ∙ ap (answer_from (front s) (packed (body_bits s l))) p.shot

    filling_read : bad_filling (body_of x) (answer_of x).end ≡ false
    filling_read = ap₂ bad_filling p.body (ap (λ (a : Answer). a.end) answer_read ∙ body_ends w) ∙ filled s l

    pub tests_read : (n m : ℕ) → n ≡ area s → m ≡ area s → accepted (read_tests x n m) ≡ true
    tests_read n m e f =
        accepted_join (tests_behind (shot_of x) (body_of x) (answer_of x).end n m) (body_tests x) p.tests
        (subst (λ (t : Shot). accepted (tests_behind t (body_of x) (answer_of x).end n m) ≡ true) (sym p.shot) (accepted-tests_behind (body_of x) (answer_of x).end n m e f filling_read))

    pub plane_read : plane_of x ≡ l
    plane_read = ap (λ (t : Shot). listed (area t) (answer_of x).value) p.shot ∙ ap (λ (a : Answer). listed (area s) a.value) answer_read ∙ body_plane w

    numbers_read : (n m : ℕ) → n ≡ area s → m ≡ area s → read_numbers x n m ≡ record { refusal = 0; marks = marks s; whole = true; region_mark = region_mark s l; q = 0 }
    numbers_read n m e f =
        let ok = tests_read n m e f in
        let a = answer_of x in
        let h = body_whole w in
        numbers_taken (accepted (read_tests x n m)) (first (read_tests x n m)) (marks (shot_of x)) (marks s) (region_mark s l) a ok (eqb-true (first (read_tests x n m)) 0 ok) (ap marks p.shot)
        (ap (λ (a : Answer). a.whole) answer_read ∙ h.whole) (ap (λ (a : Answer). a.region_mark) answer_read ∙ h.region_mark) (ap (λ (a : Answer). a.q) answer_read ∙ h.q)

    parts_back : (pl : List ℤ) (b : List ℕ) → length pl ≡ area s → length b ≡ area s → ReadBack x s l pl b
    parts_back pl b e f =
        let ok = tests_read (length pl) (length b) e f in
        record {
          numbers = numbers_read (length pl) (length b) e f;
          shot = taken (accepted (read_tests x (length pl) (length b))) (shot_of x) _ ok ∙ p.shot;
          plane = taken (accepted (read_tests x (length pl) (length b))) (plane_of x) _ ok ∙ plane_read;
          mask = taken (accepted (read_tests x (length pl) (length b))) (shot_mask (shot_of x)) _ ok ∙ ap shot_mask p.shot;
        }

-- ---- the theorem: every accepted call of the writer, and buffers of the plane's size
pub read_back : (k J D W H : ℕ) (rs : List ℕ) (l : List ℤ) (m n : ℕ) → let s = shot_for k J D W H rs l in
    accepted (write_tests s l m n) ≡ true → (p : List ℤ) (b : List ℕ) → length p ≡ area s → length b ≡ area s → ReadBack (stream s l) s l p b
read_back k J D W H rs l m n ok = let w = (write_passed (shot_for k J D W H rs l) l m n refl ok).writable in parts_back w (stream_parts w)
