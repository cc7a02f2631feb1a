-- Which test of a header holds first. Assumes nothing.
use mathlib.Core.Path.{◌≡◌, refl, sym, ap, ◌∙◌}
use mathlib.Core.Bool.{true, false}
use mathlib.Core.List.{List}
use Prim.Native.Nat.{ℕ, ◌*◌, ◌/◌, ◌%◌}
use native.Mathlib.Omega.{arith}
use lib.Dec.{ltb, eqb}
use borrow.Author.Tests.{eq-eqb}
use Rattle.line.specs.Cells.{choose}
use Rattle.refusal.specs.Numbers.{first}
use Rattle.refusal.specs.Tests.{bad_numbers}
use Rattle.refusal.proofs.Ordered.{next, numbered, first-append}
use Rattle.header.specs.Header.{number, bad_header, bad_version}
use Rattle.header.specs.Fields.{numbers, shot_of}
use Rattle.shot.specs.Shots.{setting_tests}
use Rattle.codestream.specs.Reading.{shot_tests, header_tests}
use Rattle.codestream.proofs.Accepted.{Setting, setting_passed}
use Rattle.header_reader.proofs.Arrays.{numbers-length}

-- the numbers of a header are four a rectangle
numbers_bad : (k : ℕ) (l : List ℕ) → bad_numbers (numbers (4 * k) l 14) ≡ ltb 32 k
numbers_bad k l =
    let d : 4 * k / 4 ≡ k = omega arith in let e : eqb (4 * k % 4) 0 ≡ true = eq-eqb (4 * k % 4) 0 (omega arith) in
    rw (numbers-length (4 * k) l 14, e, d)

-- ---- behind those of the setting
pub numbers_tested : (l : List ℕ) {k : ℕ} → k ≡ number 1 l 12 → bad_numbers (shot_of l).rectangles ≡ ltb 32 k
numbers_tested l e = numbers_bad _ l ∙ ap (ltb 32) (sym e)

-- ---- those of the setting
abbrev pub setting_first : List ℕ → ℕ
setting_first l = let s = shot_of l in first (setting_tests s.kernel s.levels s.depth s.width s.height)

module _ (k J D W H : ℕ) where
  pub setting_good : 0 ≡ first (setting_tests k J D W H) → Setting k J D W H
  setting_good e = setting_passed k J D W H (ap (λ (x : ℕ). eqb x 0) (sym e))

  -- the setting of a header
  pub setting_of : (l : List ℕ) → k ≡ (shot_of l).kernel → J ≡ (shot_of l).levels → D ≡ (shot_of l).depth → W ≡ (shot_of l).width → H ≡ (shot_of l).height → first (setting_tests k J D W H) ≡ setting_first l
  setting_of l p q r s t = rw (p, q, r, s, t)

-- ---- those of the call
module _ (l : List ℕ) (good : bad_header l ≡ false) (version : bad_version l ≡ false) where
  behind : choose (eqb (setting_first l) 0) (first (shot_tests (shot_of l))) (setting_first l) ≡ first (header_tests l)
  unfolding numbered
  behind = next _ _ 12 _ good (next _ _ 13 _ version (sym (first-append (shot_tests (shot_of l)) _ refl)))

  pub setting_first_lem : {x : ℕ} → x ≡ setting_first l → eqb x 0 ≡ false → x ≡ first (header_tests l)
  setting_first_lem {x} e z = e ∙ (rw (← e, z) refl ∙ behind)
