-- The classes of a mask and the planes of a class. Assumes nothing.
use mathlib.Core.Path.{◌≡◌, refl, sym, ap, ◌∙◌}
use mathlib.Core.Bool.{Bool, true, false, not}
use mathlib.Core.List.{List, [], ◌∷◌}
use Prim.Native.Nat.{ℕ, zero, suc, ◌-◌, ◌<◌, ◌≤◌}
use native.Mathlib.Omega.{arith}
use lib.Dec.{eqb}
use lib.ListN.{length, get_or, get_or-eq_default}
use borrow.Author.Tests.{eq-eqb, ne_eqb, eqb-true}
use Rattle.line.proofs.Cells.{by_lt, never}
use Rattle.bitplane.specs.Body.{class, one_plane, planes}

-- inside a list the default does not matter
inside : {A : Type 0} (l : List A) (i : ℕ) (a b : A) → i < length l → get_or l i a ≡ get_or l i b
inside [] i a b h = absurd (omega arith)
inside (x ∷ l) zero a b h = refl
inside (x ∷ l) (suc i) a b h = inside l i a b (omega arith)

module _ (mask : List ℕ) (c i : ℕ) where
  pub class_on : i < length mask → get_or mask i 0 ≡ c → class mask c i ≡ true
  unfolding class
  class_on h e = eq-eqb _ _ (inside mask i 2 0 h ∙ e)

  pub class_off : i < length mask → (get_or mask i 0 ≡ c → ⊥) → class mask c i ≡ false
  unfolding class
  class_off h n = ne_eqb _ _ (λ e. n (inside mask i 0 2 h ∙ e))

  pub class_test : i < length mask → eqb (get_or mask i 0) c ≡ class mask c i
  unfolding class
  class_test h = ap (λ m. eqb m c) (inside mask i 0 2 h)

pub class_past : (mask : List ℕ) (c i : ℕ) → c < 2 → length mask ≤ i → class mask c i ≡ false
unfolding class
class_past mask c i h g = rw (get_or-eq_default mask 2 g) (ne_eqb 2 c (λ e. omega arith))

pub class_in : (mask : List ℕ) (c i : ℕ) → c < 2 → class mask c i ≡ true → i < length mask
class_in mask c i h o = by_lt i (length mask) (λ lt. lt) (λ ge. absurd (never o (class_past mask c i h ge)))

pub classes_apart : (mask : List ℕ) (i : ℕ) → get_or mask i 2 < 2 → class mask 0 i ≡ not (class mask 1 i)
unfolding class
classes_apart mask i h = by_lt (get_or mask i 2) 1
    (λ lt. eq-eqb (get_or mask i 2) 0 (omega arith) ∙ sym (ap not (ne_eqb (get_or mask i 2) 1 (λ e. omega arith))))
    (λ ge. ne_eqb (get_or mask i 2) 0 (λ e. omega arith) ∙ sym (ap not (eq-eqb (get_or mask i 2) 1 (omega arith))))

pub one_class : (mask : List ℕ) (c d i : ℕ) → (c ≡ d → ⊥) → class mask c i ≡ true → class mask d i ≡ false
unfolding class
one_class mask c d i n o = let e = eqb-true (get_or mask i 2) c o in ne_eqb (get_or mask i 2) d (λ f. n (sym e ∙ f))

-- the next plane of a class
pub planes_step : (on : ℕ → Bool) (t : ℕ) → 0 < t → planes on t ≡ one_plane on (t - 1) ∷ planes on (t - 1)
unfolding planes
planes_step on zero h = absurd (omega arith)
planes_step on (suc t) h = let e : suc t - 1 ≡ t = omega arith in rw e

pub planes_many : (on : ℕ → Bool) (t : ℕ) → length (planes on t) ≡ t
unfolding planes
planes_many on zero = refl
planes_many on (suc t) = ap suc (planes_many on t)
