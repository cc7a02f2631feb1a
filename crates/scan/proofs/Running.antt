-- The loop that finds the largest magnitude and counts the signs, one cell after the other.
--
--   Scanned l i m s == of a plane the first i coefficients are passed: m is their largest magnitude, and s of them are not 0
--
-- Assumes nothing.
use mathlib.Core.Path.{◌≡◌, refl, ap, ap₂, ◌∙◌}
use mathlib.Core.Bool.{Bool}
use mathlib.Core.List.{List, [], ◌∷◌, ◌++◌}
use Prim.Native.Nat.{ℕ, ◌+◌, max, ◌<◌, ◌≤◌}
use native.Mathlib.Numerals.{add-one}
use native.Mathlib.Omega.{arith}
use lib.Dec.{ltb}
use lib.IntN.{ℤ, pos, nat_abs}
use lib.ListN.{length, take}
use lib.Seq.{take-suc, take_all}
use Rattle.line.specs.Cells.{cell}
use mir.Val.{bool_byte}
use Rattle.line.proofs.Counts.{Counted, counted_none, counted_more, test_one}
use Rattle.scan.specs.Scan.{largest}

-- ---- the largest so far
largest_more : (l : List ℤ) (z : ℤ) → largest (l ++ (z ∷ [])) ≡ max (largest l) (nat_abs z)
unfolding largest
largest_more [] z = omega arith
largest_more (x ∷ l) z = omega (arith, largest_more l z)

abbrev pub not_zero : List ℤ → ℕ → Bool
not_zero l i = ltb 0 (nat_abs (cell l i))

pub record Scanned (l : List ℤ) (i m s : ℕ) : Type 0 where
  pub largest_so_far : m ≡ largest (take i l)
  pub signs_so_far : Counted (not_zero l) (length l) i s

pub scanned_none : {l : List ℤ} → Scanned l 0 0 0
unfolding largest
scanned_none = record { largest_so_far = refl; signs_so_far = counted_none }

pub scanned_more : {l : List ℤ} {i m s c b m' : ℕ} → Scanned l i m s → i < length l → m' ≡ max m c → c ≡ nat_abs (cell l i) → b ≡ bool_byte (ltb 0 c) → Scanned l (i + 1) m' (s + b)
scanned_more {l} {i} {m} {s} {c} {b} p h f e g = record {
  largest_so_far = f ∙ rw (add-one i, take-suc l i (pos 0) h, largest_more (take i l) (cell l i)) (ap₂ max p.largest_so_far e);
  signs_so_far = counted_more p.signs_so_far h (rw e at (g ∙ test_one (ltb 0 c)));
}

pub scanned_all : {l : List ℤ} {i m s : ℕ} → Scanned l i m s → length l ≤ i → m ≡ largest l
scanned_all {l} {i} p h = p.largest_so_far ∙ ap largest (take_all i l h)
