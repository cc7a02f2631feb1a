-- Every cut of an accepted stream, from its region mark on, is accepted again and shows the region exactly. Assumes nothing.
use mathlib.Core.Path.{◌≡◌, refl, sym, ap, ap₂, ◌∙◌, subst}
use mathlib.Core.Bool.{true, false}
use mathlib.Core.List.{List, ◌++◌}
use Prim.Native.Nat.{ℕ, ◌+◌, ◌-◌, ◌/◌, ◌<◌, ◌≤◌}
use native.Mathlib.Omega.{arith}
use lib.IntN.{ℤ, pos}
use lib.ListN.{get_or, take}
use borrow.Author.Tests.{eq-eqb, eqb-true}
use Rattle.line.specs.Cells.{listed}
use Rattle.line.proofs.Lists.{listed_cell}
use Rattle.bitplane.specs.Body.{class}
use Rattle.bitplane.specs.Reader.{received, Answer, read, start, bad_filling}
use Rattle.bitplane.proofs.Classes.{class_past, one_class}
use Rattle.bitplane.proofs.Cut.{planes_upto}
use Rattle.refusal.specs.Numbers.{first, accepted}
use Rattle.refusal.specs.Tests.{bad_length}
use Rattle.refusal.proofs.Ordered.{passes_test, numbered, accepted_both, accepted_join}
use Rattle.samples.specs.Samples.{in_range}
use Rattle.header.specs.Header.{front_length, bad_header, body_tests, body_of}
use Rattle.header.specs.Fields.{Shot, shot_of}
use Rattle.header.specs.Arrival.{cut_to, arrived_of}
use Rattle.shot.specs.Shots.{shot_mask, marks, setting_tests, rectangle_tests}
use Rattle.codestream.specs.Stream.{area, marked_passes}
use Rattle.codestream.specs.Reading.{answer_of, plane_of, bad_planes, read_tests}
use Rattle.codestream.specs.Cutting.{cut_tests, Bytes}
use Rattle.codestream.proofs.Accepted.{taken, setting_passed}
use Rattle.codestream.proofs.Lengths.{shot_mask_length}
use Rattle.codestream.proofs.Arrivals.{arrived_cut}
use Rattle.codestream.proofs.Cuts.{Headed, headed, Cuttable, cut_taken, cut_passed}
use Rattle.codestream.proofs.RoundTrip.{last_tests, tests_behind, answer_from}
use Rattle.exactness.specs.Shown.{undone_at, in_region_at, level_area, level_number_at, level_sample_at, in_level_at}
use Rattle.exactness.specs.Demands.{Exact}
use Rattle.exactness.proofs.Bodies.{Kept, kept}
use Rattle.exactness.proofs.Levels.{number_at, area_full, mask_full}
use Rattle.exactness.proofs.Regions.{number_of, level_same}

-- ---- the reader's tests behind those of the header: they pass for another body that is well filled
module _ (s : Shot) (b : List ℕ) (e n m : ℕ) (ok : accepted (tests_behind s b e n m) ≡ true) where
  accepted-setting_tests : accepted (setting_tests s.kernel s.levels s.depth s.width s.height) ≡ true
  unfolding numbered
  accepted-setting_tests = (accepted_both _ (setting_tests s.kernel s.levels s.depth s.width s.height) refl ok).0

  drawing_tests : (accepted (rectangle_tests s.width s.height s.rectangles) ≡ true) × (accepted (last_tests s b e n m) ≡ true)
  unfolding numbered
  drawing_tests = accepted_both _ (rectangle_tests s.width s.height s.rectangles) refl
      (accepted_both _ (setting_tests s.kernel s.levels s.depth s.width s.height) refl ok).1

  last_tests_passed : (bad_planes s.planes ≡ false) × (bad_length s.width s.height n ≡ false) × (bad_length s.width s.height m ≡ false) × (bad_filling b e ≡ false)
  last_tests_passed =
      let c = passes_test (bad_planes s.planes) 13 _ drawing_tests.1 in
      let d = passes_test (bad_length s.width s.height n) 4 _ c.1 in
      let f = passes_test (bad_length s.width s.height m) 4 _ d.1 in
      (c.0, d.0, f.0, (passes_test (bad_filling b e) 15 _ f.1).0)

  refilled : (b' : List ℕ) (e' : ℕ) → bad_filling b' e' ≡ false → accepted (tests_behind s b' e' n m) ≡ true
  unfolding first
  refilled b' e' f =
      let t = last_tests_passed in
      let drawing = rectangle_tests s.width s.height s.rectangles in
      let last : accepted (last_tests s b' e' n m) ≡ true = rw (t.0, t.1, t.2, f) refl in
      accepted_join (drawing ++ last_tests s b' e' n m) (setting_tests s.kernel s.levels s.depth s.width s.height) accepted-setting_tests
      (accepted_join (last_tests s b' e' n m) drawing drawing_tests.0 last)

module _ (l : List ℕ) (n m c : ℕ) (bytes : Bytes l) (p : Cuttable l n m c) where
  abbrev s : Shot
  s = shot_of l

  abbrev k : ℕ
  k = c - front_length l

  parts : (accepted (body_tests l) ≡ true) × (accepted (tests_behind s (body_of l) (answer_of l).end n m) ≡ true)
  unfolding numbered
  parts = accepted_both _ (body_tests l) refl p.read

  front_low : front_length l ≤ c
  front_low =
      let e : (answer_of l).region_mark ≡ front_length l + ((read (received (body_of l)) (area s) (marked_passes s) start).at + 7) / 8 = rw p.whole in
      omega (arith, p.low)

  head : Headed l c
  head = headed l c bytes parts.0 front_low p.high

  answer_cut : answer_of (cut_to l c) ≡ answer_from (front_length l) (take k (body_of l)) s
  answer_cut =
      ap (λ (f : ℕ). answer_from f (body_of (cut_to l c)) (shot_of (cut_to l c))) head.front
      ∙ ap (λ (b : List ℕ). answer_from (front_length l) b (shot_of (cut_to l c))) head.body ∙ ap (answer_from (front_length l) (take k (body_of l))) head.shot

  upto : (a : ℕ) → a < 2 → (i : ℕ) → area s ≤ i → class (shot_mask s) a i ≡ false
  upto a h i g = class_past (shot_mask s) a i h (omega (arith, shot_mask_length s))

  same : Kept (answer_of l) (answer_from (front_length l) (take k (body_of l)) s) (body_of l) k (class (shot_mask s) 0)
  same = kept (front_length l) (area s) s.planes (body_of l) k (marked_passes s) (class (shot_mask s) 0)
      (planes_upto (area s) (class (shot_mask s) 1) s.planes (upto 1 (omega arith))) (upto 0 (omega arith))
      (omega (arith, head.rest, p.high)) p.whole (omega (arith, front_low, p.low))

  filling : bad_filling (body_of (cut_to l c)) (answer_of (cut_to l c)).end ≡ false
  filling =
      ap₂ bad_filling head.body (ap (λ (a : Answer). a.end) answer_cut) ∙ same.filled (last_tests_passed s (body_of l) (answer_of l).end n m parts.1).3

  accepted_cut : accepted (read_tests (cut_to l c) n m) ≡ true
  accepted_cut =
      let x = cut_to l c in
      accepted_join (tests_behind (shot_of x) (body_of x) (answer_of x).end n m) (body_tests x) head.tests
      (subst (λ (t : Shot). accepted (tests_behind t (body_of x) (answer_of x).end n m) ≡ true) (sym head.shot)
      (refilled s (body_of l) (answer_of l).end n m parts.1 (body_of x) (answer_of x).end filling))

  plane_cut : plane_of (cut_to l c) ≡ listed (area s) (answer_from (front_length l) (take k (body_of l)) s).value
  plane_cut =
      ap (λ (t : Shot). listed (area t) (answer_of (cut_to l c)).value) head.shot ∙ ap (λ (a : Answer). listed (area s) a.value) answer_cut

  marked_cut : (i : ℕ) → i < area s → get_or (shot_mask s) i 2 ≡ 1 → get_or (plane_of (cut_to l c)) i (pos 0) ≡ get_or (plane_of l) i (pos 0)
  unfolding class
  marked_cut i h e =
      let off = one_class (shot_mask s) 1 0 i (λ e. omega arith) (eq-eqb (get_or (shot_mask s) i 2) 1 e) in
      ap (λ (q : List ℤ). get_or q i (pos 0)) plane_cut ∙ listed_cell (area s) _ (pos 0) i h ∙ same.value i off ∙ sym (listed_cell (area s) (answer_of l).value (pos 0) i h)

  -- at each level
  pub level_cut : (r : ℕ) → r ≤ s.levels → (i : ℕ) → i < level_area r s → in_level_at r s i ≡ true → level_number_at r (cut_to l c) i ≡ level_number_at r l i
  level_cut r few i h t =
      let set = setting_passed s.kernel s.levels s.depth s.width s.height (accepted-setting_tests s (body_of l) (answer_of l).end n m parts.1) in
      ap (λ (t : Shot). number_of r t (plane_of (cut_to l c)) i) head.shot ∙ level_same s set (plane_of (cut_to l c)) (plane_of l) marked_cut r few i h t

  pub level_shown : (r : ℕ) → r ≤ s.levels → (i : ℕ) → i < level_area r s → in_level_at r s i ≡ true → level_sample_at r (cut_to l c) i ≡ level_sample_at r l i
  level_shown r few i h t = ap₂ in_range (ap (λ (t : Shot). t.depth) head.shot) (level_cut r few i h t)

  -- level 0
  undone_cut : (i : ℕ) → i < area s → in_region_at s i ≡ true → undone_at (cut_to l c) i ≡ undone_at l i
  undone_cut i h t = sym (number_at (cut_to l c) i) ∙ level_cut 0 (omega arith) i (rw (area_full s) h) (mask_full s i ∙ t) ∙ number_at l i

  -- what arrived of it
  pub arrived_is : arrived_of (take c l) ≡ cut_to l c
  arrived_is = arrived_cut l (passes_test (bad_header l) 11 _ parts.0).0 c front_low p.high bytes

  -- the theorem
  pub every_cut : Exact l n m c
  every_cut = record {
    size = head.size;
    accepted = accepted_cut;
    shot = head.shot;
    whole = ap (λ (a : Answer). a.whole) answer_cut ∙ same.whole;
    region_mark = ap (λ (a : Answer). a.region_mark) answer_cut ∙ same.region_mark;
    marks = taken (accepted (read_tests (cut_to l c) n m)) (marks (shot_of (cut_to l c))) 0 accepted_cut ∙ ap marks head.shot
        ∙ sym (taken (accepted (read_tests l n m)) (marks s) 0 p.read);
    marked = marked_cut;
    undone = undone_cut;
    shown = λ i h t. ap₂ in_range (ap (λ (t : Shot). t.depth) head.shot) (undone_cut i h t);
    taken = λ o h. eqb-true (first (cut_tests l n m c o)) 0 (cut_taken l n m c o p h);
  }

-- so every accepted call of the cutter gives such a cut
pub cutter_exact : (l : List ℕ) (n m c o : ℕ) → Bytes l → accepted (cut_tests l n m c o) ≡ true → Exact l n m c
cutter_exact l n m c o bytes ok = every_cut l n m c bytes (cut_passed l n m c o ok).0
