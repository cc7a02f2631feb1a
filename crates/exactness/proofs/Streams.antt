-- The tests of showing a stream at a level, from the reader's. Assumes nothing.
use mathlib.Core.Path.{◌≡◌, refl, ap, ◌∙◌}
use mathlib.Core.Bool.{true, ◌&&◌}
use mathlib.Core.List.{List, ◌++◌}
use Prim.Native.Nat.{ℕ, ◌≤◌}
use borrow.Author.Tests.{le-ltb, eq-eqb}
use lib.Dec.{eqb}
use Rattle.line.specs.Cells.{choose}
use Rattle.refusal.specs.Numbers.{first, accepted}
use Rattle.refusal.specs.Tests.{bad_level}
use Rattle.refusal.proofs.Ordered.{numbered, first_between, accepted_both, accepted_join}
use Rattle.header.specs.Fields.{shot_of}
use Rattle.codestream.specs.Reading.{header_tests, buffer_tests, read_tests}
use Rattle.exactness.specs.Shown.{level_area, front_tests, area_tests, stream_tests}
use Rattle.exactness.proofs.Levels.{and-false}

-- 17 is the one test between the reader's
pub stream_first : (l : List ℕ) (r n m u s : ℕ)
    → first (stream_tests l r n m u s) ≡ choose (accepted (front_tests l) && bad_level r (shot_of l).levels) 17 (first (header_tests l ++ area_tests l r n m u s))
unfolding numbered
stream_first l r n m u s = first_between (front_tests l) _ (bad_level r (shot_of l).levels) 17 refl

module _ (l : List ℕ) (r n m u s : ℕ) (few : r ≤ (shot_of l).levels) where
  pub stream_few : first (stream_tests l r n m u s) ≡ first (header_tests l ++ area_tests l r n m u s)
  stream_few = stream_first l r n m u s ∙ (rw (le-ltb (shot_of l).levels r few, and-false (accepted (front_tests l))))

-- what the reader accepts is shown at each level
pub stream_taken : (l : List ℕ) (n m r : ℕ) → accepted (read_tests l n m) ≡ true → r ≤ (shot_of l).levels → let a = level_area r (shot_of l) in accepted (stream_tests l r n m a a) ≡ true
unfolding numbered first
stream_taken l n m r ok few =
    let a = level_area r (shot_of l) in
    let p = accepted_both (buffer_tests l n m) (header_tests l) refl ok in
    let area : accepted (area_tests l r n m a a) ≡ true = rw (eq-eqb a a refl) p.1 in
    ap (λ (f : ℕ). eqb f 0) (stream_few l r n m a a few) ∙ accepted_join (area_tests l r n m a a) (header_tests l) p.0 area
