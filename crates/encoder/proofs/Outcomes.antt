-- What is answered, by the number of the first test that holds. Assumes nothing.
use mathlib.Core.Path.{◌≡◌, refl, sym, ◌∙◌}
use mathlib.Core.Bool.{Bool, true, false}
use mathlib.Core.List.{List, ◌++◌}
use Prim.Native.Nat.{ℕ, ◌<◌, ◌≤◌}
use lib.Dec.{leb, ltb, eqb}
use lib.IntN.{ℤ}
use lib.ListN.{length, drop}
use borrow.Author.Tests.{lt-ltb, le-ltb, eq-eqb}
use Rattle.line.specs.Cells.{choose}
use Rattle.refusal.specs.Numbers.{first, accepted}
use Rattle.refusal.specs.Tests.{bad_numbers, bad_rectangles, bad_magnitude}
use Rattle.std.specs.Prelude.{Result, Ok, Err}
use Rattle.refusal.specs.declared.Refusal.{Refusal}
use Rattle.refusal.specs.declared.Refusal.TheVariants.{Room}
use Rattle.refusal.proofs.Ordered.{next, is, numbered, first-append}
use Rattle.scan.specs.Scan.{largest}
use Rattle.scan.proofs.Largest.{bad_magnitude-largest}
use Rattle.header.specs.Fields.{Shot}
use Rattle.shot.specs.Shots.{shot_mask, marks, setting_tests, rectangle_tests}
use Rattle.codestream.specs.Stream.{area, total_length, region_mark, stream}
use Rattle.codestream.specs.Writing.{other_tests, room_test, write_tests}
use Rattle.encoder.specs.declared.Lengths.{Lengths}
use Rattle.encoder.specs.Inner.{Answered}

module _ {s : Shot} {l : List ℤ} {mask out : List ℕ} where
  -- the mask is drawn, and the stream does not fit
  pub too_short : {total : ℕ} → total ≡ total_length s l → mask ≡ shot_mask s → length out < total → Answered (first (room_test s l (length out))) s l mask mask out out (Err (Room total))
  unfolding first
  too_short {total} e m h = rw (lt-ltb (length out) (total_length s l) (rw (← e) h)) (record { numbers = rw e refl; mask_held = m; stream_held = refl })

  pub written : {total mark count : ℕ} {out' : List ℕ} → total ≡ total_length s l → mark ≡ region_mark s l → count ≡ marks s → mask ≡ shot_mask s → total_length s l ≤ length out
      → out' ≡ stream s l ++ drop (total_length s l) out → Answered (first (room_test s l (length out))) s l mask mask out out' (Ok (record { total = total; region_mark = mark; marks = count }))
  unfolding first
  written e f g m h o = rw (le-ltb (length out) (total_length s l) h) (record { numbers = rw (e, f, g) refl; mask_held = m; stream_held = o })

  -- the answer of the room's test, behind tests that passed; the mask was drawn in a buffer that held something else
  pub behind : {f : ℕ} {held out' : List ℕ} {r : Result Lengths Refusal} → first (room_test s l (length out)) ≡ f → mask ≡ shot_mask s → Answered (first (room_test s l (length out))) s l mask mask out out' r
      → Answered f s l held mask out out' r
  unfolding first
  behind {f} {held} {out'} {r} e m a = rw (← e) (drawn (ltb (length out) (total_length s l)) a)
    where
      drawn : (b : Bool) → Answered (choose b 11 0) s l mask mask out out' r → Answered (choose b 11 0) s l held mask out out' r
      drawn true x = record { numbers = x.numbers; mask_held = m; stream_held = x.stream_held }
      drawn false x = record { numbers = x.numbers; mask_held = m; stream_held = x.stream_held }

-- ---- tests that passed
pub large : (l : List ℤ) → bad_magnitude l ≡ leb 4194304 (largest l)
large = bad_magnitude-largest

pub drawing_passed : (W H : ℕ) (l : List ℕ) → bad_numbers l ≡ false → bad_rectangles W H l ≡ false → accepted (rectangle_tests W H l) ≡ true
unfolding first
drawing_passed W H l a b = rw (a, b) refl

pub others_passed : (s : Shot) (l : List ℤ) (m n : ℕ) → accepted (rectangle_tests s.width s.height s.rectangles) ≡ true → length l ≡ area s → m ≡ area s → bad_magnitude l ≡ false
    → first (room_test s l n) ≡ first (other_tests s l m n)
unfolding numbered
others_passed s l m n a b c d =
    next _ _ 5 _ (is _ (eq-eqb (length l) (area s) b)) (next _ _ 5 _ (is _ (eq-eqb m (area s) c)) (next _ _ 10 _ d refl)) ∙ sym (first-append _ (rectangle_tests s.width s.height s.rectangles) refl ∙ rw a refl)

module _ (s : Shot) (l : List ℤ) (m n : ℕ) where
  abbrev first_four : ℕ
  first_four = first (setting_tests s.kernel s.levels s.depth s.width s.height)

  apart : first (write_tests s l m n) ≡ choose (eqb first_four 0) (first (other_tests s l m n)) first_four
  unfolding numbered
  apart = first-append _ (setting_tests s.kernel s.levels s.depth s.width s.height) refl

  module _ {mask out : List ℕ} where
    pub setting_taken : {mask' out' : List ℕ} {r : Result Lengths Refusal} → 0 ≡ first_four → Answered (first (other_tests s l m n)) s l mask mask' out out' r
        → Answered (first (write_tests s l m n)) s l mask mask' out out' r
    setting_taken e a = let f : first (other_tests s l m n) ≡ first (write_tests s l m n) = sym (apart ∙ rw (← e) refl) in rw f at a
