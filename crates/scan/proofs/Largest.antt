-- The largest magnitude of a plane: no coefficient is larger, one is as large, and refusal 10 asks for nothing else. Assumes nothing.
use mathlib.Core.Path.{◌≡◌, refl, sym, ◌∙◌}
use mathlib.Core.Bool.{Bool}
use mathlib.Core.List.{List, [], ◌∷◌}
use Prim.Native.Nat.{ℕ, zero, suc, ◌^◌, ◌<◌, ◌≤◌}
use native.Mathlib.Omega.{arith}
use lib.Dec.{leb}
use lib.IntN.{ℤ, pos, nat_abs}
use lib.ListN.{length, get_or-eq_default}
use borrow.Author.Tests.{le-leb, lt-leb, leb-true}
use Rattle.line.specs.Cells.{cell}
use Rattle.line.specs.Mask.{any_below}
use Rattle.line.proofs.Cells.{by_lt, by_bool}
use Rattle.line.proofs.Marks.{any_intro, any_elim}
use Rattle.refusal.specs.Tests.{bad_magnitude}
use Rattle.scan.specs.Scan.{largest}

pub largest_each : (l : List ℤ) (i : ℕ) → nat_abs (cell l i) ≤ largest l
unfolding largest
largest_each [] i = omega arith
largest_each (z ∷ l) zero = omega arith
largest_each (z ∷ l) (suc i) = omega (arith, largest_each l i)

-- the place of a coefficient of the largest magnitude
pub largest_at : (l : List ℤ) → 0 < largest l → (i : ℕ) × (nat_abs (cell l i) ≡ largest l)
unfolding largest
largest_at [] h = absurd (omega arith)
largest_at (z ∷ l) h = by_lt (nat_abs z) (largest l)
    (λ lt. let p = largest_at l (omega arith) in (suc p.0, omega (arith, p.1)))
    (λ ge. (zero, omega arith))

-- past the end of a plane every coefficient is 0
within : (l : List ℤ) (i : ℕ) → 0 < nat_abs (cell l i) → i < length l
within l i h = by_lt i (length l) (λ lt. lt)
    (λ ge. let e : nat_abs (cell l i) ≡ 0 = rw (get_or-eq_default l (pos 0) ge) refl in absurd (omega arith))

-- a magnitude of 2^22 or more
abbrev large : List ℤ → ℕ → Bool
large l i = leb (2 ^ 22) (nat_abs (cell l i))

pub bad_magnitude-largest : (l : List ℤ) → bad_magnitude l ≡ leb (2 ^ 22) (largest l)
unfolding bad_magnitude
bad_magnitude-largest l = by_lt (largest l) (2 ^ 22)
    (λ lt. by_bool (any_below (length l) (large l))
    (λ t. any_elim (length l) (large l) t (λ k b p. absurd (omega (arith, leb-true (2 ^ 22) (nat_abs (cell l k)) p, largest_each l k))))
    (λ f. f ∙ sym (lt-leb (2 ^ 22) (largest l) lt)))
    (λ ge. let p = largest_at l (omega arith) in
    any_intro (length l) (large l) p.0 (within l p.0 (omega (arith, p.1))) (le-leb (2 ^ 22) (nat_abs (cell l p.0)) (omega (arith, p.1)))
    ∙ sym (le-leb (2 ^ 22) (largest l) ge))
