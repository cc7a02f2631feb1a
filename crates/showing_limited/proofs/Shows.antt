-- Level 0 of a stream, in buffers of one length: the tests and the samples are the reader's. Assumes nothing.
use mathlib.Core.Path.{◌≡◌, refl, sym, ap, ◌∙◌}
use mathlib.Core.Bool.{Bool, true, false, ◌||◌}
use mathlib.Core.List.{List, ◌∷◌, ◌++◌}
use Prim.Native.Nat.{ℕ, ◌*◌, ◌<◌, ◌≤◌}
use native.Mathlib.Omega.{arith}
use lib.Dec.{eqb}
use lib.ListN.{length}
use lib.Seq.{ext_get_or}
use borrow.Author.Tests.{eqb-true, not-false}
use Rattle.line.specs.Cells.{choose, listed}
use Rattle.line.proofs.Lists.{is_listed}
use Rattle.grid.specs.Picture.{side}
use Rattle.refusal.specs.Numbers.{Test, test, first, accepted}
use Rattle.refusal.specs.Tests.{bad_length}
use Rattle.refusal.specs.Results.{Result}
use Rattle.refusal.proofs.Ordered.{passes_test, numbered, first-append, accepted_both}
use Rattle.samples.specs.Samples.{in_range}
use Rattle.header.specs.Fields.{shot_of}
use Rattle.header.specs.Header.{body_tests}
use Rattle.codestream.specs.Stream.{area}
use Rattle.shot.specs.Shots.{setting_tests}
use Rattle.codestream.proofs.Accepted.{setting_passed}
use Rattle.codestream.specs.Reading.{header_tests, shot_tests, buffer_tests, filling_test, read_tests}
use Rattle.header_reader.specs.Answers.{header_for}
use Rattle.header_reader.specs.declared.Header.{Header}
use Rattle.exactness.specs.Shown.{shown_at, level_sample_at, area_tests, stream_tests}
use Rattle.exactness.proofs.Levels.{number_at}
use Rattle.exactness.proofs.Streams.{stream_few}
use Rattle.showing_limited.specs.Inner.{samples_after}
use Rattle.showing_limited.specs.Showing.{room_for}
use Rattle.showing_limited.proofs.Rooms.{room_small}

-- ---- a test that stands twice
twice : (b : Bool) (n : ℕ) (ts : List Test) → first (test (b || b) n ∷ test b n ∷ ts) ≡ first (test b n ∷ ts)
unfolding first
twice true n ts = refl
twice false n ts = refl

module _ (l : List ℕ) (n : ℕ) where
  buffers : first (area_tests l 0 n n n n) ≡ first (buffer_tests l n n)
  unfolding side
  buffers = twice (bad_length (shot_of l).width (shot_of l).height n) 5 (test (bad_length (shot_of l).width (shot_of l).height n) 5 ∷ filling_test l)

  pub tests_read : first (stream_tests l 0 n n n n) ≡ first (read_tests l n n)
  unfolding numbered
  tests_read =
      stream_few l 0 n n n n (omega arith) ∙ first-append (area_tests l 0 n n n n) (header_tests l) refl
      ∙ ap (λ (f : ℕ). choose (accepted (header_tests l)) f (first (header_tests l))) buffers ∙ sym (first-append (buffer_tests l n n) (header_tests l) refl)

-- ---- the shown samples
pub samples_read : (l held part : List ℕ) → Result 0 (accepted (read_tests l (length held) (length held))) (level_sample_at 0 l) held part → part ≡ samples_after l held
samples_read l held part r = by_answer (accepted (read_tests l (length held) (length held))) r
  where
    by_answer : (ok : Bool) → Result 0 ok (level_sample_at 0 l) held part → part ≡ choose ok (listed (length held) (shown_at l)) held
    by_answer true t = is_listed (length held) (shown_at l) 0 part t.size (λ i h. t.cell i h ∙ ap (in_range (shot_of l).depth) (number_at l i))
    by_answer false t = ext_get_or 0 part held t.size (λ i h. t.cell i (omega (arith, t.size)))

-- ---- the rows of the picture that was read are within the lent buffer
full : (l : List ℕ) (n : ℕ) → accepted (read_tests l n n) ≡ true → n ≡ area (shot_of l)
unfolding numbered
full l n ok =
    let a = accepted_both (buffer_tests l n n) (header_tests l) refl ok in
    eqb-true n (area (shot_of l)) (not-false _ (passes_test (bad_length (shot_of l).width (shot_of l).height n) 4 _ a.1).0)

pub rows_fit : (l : List ℕ) (n : ℕ) {h : Header} → 0 ≡ first (read_tests l (room_for l n) (room_for l n)) → h ≡ header_for (shot_of l) → h.width * h.height ≤ n
rows_fit l n {h} e is = rw is (omega (arith, (room_small l n).1, full l (room_for l n) (ap (λ (f : ℕ). eqb f 0) (sym e))))

-- a picture that was read has columns
pub columns : (l : List ℕ) (n : ℕ) {h : Header} → h ≡ header_for (shot_of l) → 0 ≡ first (read_tests l n n) → 0 < h.width
unfolding numbered
columns l n e f =
    let s = shot_of l in
    let a = accepted_both (buffer_tests l n n) (header_tests l) refl (ap (λ (f : ℕ). eqb f 0) (sym f)) in
    let b = accepted_both (setting_tests s.kernel s.levels s.depth s.width s.height ++ shot_tests s) (body_tests l) refl a.0 in
    let c = accepted_both (shot_tests s) (setting_tests s.kernel s.levels s.depth s.width s.height) refl b.1 in
    let w = (setting_passed s.kernel s.levels s.depth s.width s.height c.0).sides.width.0 in
    rw e w
