-- A loop that asks of each cell, one after the other, whether a test holds.
--
--   Scanned f n i bad             == of n cells the first i are asked, and bad says whether f holds of any of them
--
-- Assumes nothing.
use mathlib.Core.Path.{◌≡◌, refl, sym, ap₂, ◌∙◌, subst}
use mathlib.Core.List.{List}
use mathlib.Core.Bool.{Bool, true, false, ◌||◌}
use Prim.Native.Nat.{ℕ, ◌+◌, ◌*◌, ◌-◌, ◌/◌, ◌<◌, ◌≤◌}
use native.Mathlib.Numerals.{add-one}
use native.Mathlib.Omega.{arith}
use Rattle.line.specs.Mask.{any_below}
use Rattle.line.proofs.Cells.{by_lt}
use Rattle.line.proofs.Marks.{or_left, or_right, or_cases, any_intro, any_elim}
use Rattle.refusal.specs.Parts.{part_size, part_start, in_parts, Tells}
use Rattle.std.proofs.lemmas.List.{get_or_default}
use lib.ListN.{length, get_or}

pub record Scanned (f : ℕ → Bool) (n i : ℕ) (bad : Bool) : Type 0 where
  pub count : i ≤ n
  pub so_far : bad ≡ any_below i f

pub scanned_none : {f : ℕ → Bool} {n : ℕ} → Scanned f n 0 false
unfolding any_below
scanned_none = record { count = omega arith; so_far = refl }

pub scanned_more : {f : ℕ → Bool} {n i : ℕ} {bad b : Bool} → Scanned f n i bad → i < n → b ≡ f i → Scanned f n (i + 1) (bad || b)
unfolding any_below
scanned_more {f} {n} {i} s h e = record { count = omega arith; so_far = rw (add-one i) (ap₂ ◌||◌ s.so_far e) }

pub scanned_all : {f : ℕ → Bool} {n i : ℕ} {bad : Bool} → Scanned f n i bad → n ≤ i → bad ≡ any_below n f
scanned_all {f} {n} {i} s h = let e : i ≡ n = omega (arith, s.count) in rw e at s.so_far

-- ---- four parts side by side
-- a cell of a part is a cell
pub part_in : (n p i : ℕ) → i < part_size n → part_start n p + i < n
unfolding part_size part_start
part_in n p i h = omega arith

pub size_most : (n : ℕ) → (part_size n ≤ n / 4 + 1) × (part_size n ≤ n) × (n ≤ 4 * part_size n)
unfolding part_size
size_most n = omega arith

-- each part begins where the one before it ends, or earlier, and the last one ends with the buffer
starts : (n : ℕ) → (part_start n 1 ≤ part_size n) × (part_start n 2 ≤ part_start n 1 + part_size n) × (part_start n 3 ≤ part_start n 2 + part_size n) × (n ≤ part_start n 3 + part_size n)
unfolding part_start
starts n = let m = size_most n in (omega arith, omega (arith, m), omega (arith, m), omega (arith, m))

same_truth : (a b : Bool) → (a ≡ true → b ≡ true) → (b ≡ true → a ≡ true) → a ≡ b
same_truth true b f g = sym (f refl)
same_truth false true f g = g refl
same_truth false false f g = refl

module _ (n : ℕ) (f : ℕ → Bool) where
  part_found : (i : ℕ) → i < part_size n → in_parts n f i ≡ true → any_below n f ≡ true
  part_found i h e = or_cases _ _ e
      (λ d. or_cases _ _ d (any_intro n f i (omega (arith, size_most n))) (any_intro n f (part_start n 1 + i) (part_in n 1 i h)))
      (λ d. or_cases _ _ d (any_intro n f (part_start n 2 + i) (part_in n 2 i h)) (any_intro n f (part_start n 3 + i) (part_in n 3 i h)))

  -- every cell is in a part
  cell_found : (k : ℕ) → k < n → f k ≡ true → any_below (part_size n) (in_parts n f) ≡ true
  cell_found k h t = by_lt k (part_size n)
      (λ lt. any_intro _ _ k lt (or_left _ _ (or_left _ _ t)))
      (λ ge. by_lt k (part_start n 1 + part_size n)
      (λ lt. behind 1 (omega (arith, starts n)) lt (λ e. or_left _ _ (or_right (f (k - part_start n 1)) _ e)))
      (λ ge1. by_lt k (part_start n 2 + part_size n)
      (λ lt. behind 2 (omega (arith, starts n)) lt (λ e. or_right (f (k - part_start n 2) || f (part_start n 1 + (k - part_start n 2))) _ (or_left _ _ e)))
      (λ ge2. behind 3 (omega (arith, starts n)) (omega (arith, starts n)) (λ e. or_right (f (k - part_start n 3) || f (part_start n 1 + (k - part_start n 3))) _ (or_right (f (part_start n 2 + (k - part_start n 3))) _ e)))))
    where
      behind : (p : ℕ) → part_start n p ≤ k → k < part_start n p + part_size n → (f (part_start n p + (k - part_start n p)) ≡ true → in_parts n f (k - part_start n p) ≡ true)
          → any_below (part_size n) (in_parts n f) ≡ true
      behind p a b g = let e : k ≡ part_start n p + (k - part_start n p) = omega arith in any_intro _ _ (k - part_start n p) (omega arith) (g (rw e at t))

  pub parts_all : any_below (part_size n) (in_parts n f) ≡ any_below n f
  parts_all = same_truth _ _ (λ t. any_elim (part_size n) (in_parts n f) t part_found) (λ t. any_elim n f t cell_found)

-- ---- a test that a caller hands in
-- what it answered for a cell that was read
pub told_of : {A : Type 0} (post : A → Bool → Type 0) (l : List A) (o : A) {f : ℕ → Bool} {k : ℕ} {x : A} {r : Bool} → Tells post o f l → k < length l → x ≡ get_or l k x → post x r → r ≡ f k
told_of post l o {k = k} {x} {r} t h e p = t k h r (subst (λ y. post y r) (e ∙ get_or_default l k x o h) p)
