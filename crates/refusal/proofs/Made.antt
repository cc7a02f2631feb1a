-- A loop that writes the cells of a buffer, one after the other.
--
--   Made o f s i l l' == l' is l with what f says in the cells from s to i
--
-- Assumes nothing.
use mathlib.Core.Path.{◌≡◌, refl, ◌∙◌}
use mathlib.Core.Bool.{true}
use mathlib.Core.List.{List}
use Prim.Native.Nat.{ℕ, ◌+◌, ◌<◌, ◌≤◌}
use native.Mathlib.Omega.{arith}
use borrow.Author.Count.{below_more}
use lib.ListN.{length, get_or, set, length-set}
use lib.Seq.{get_or-set_same, get_or-set_other}
use Rattle.refusal.specs.Results.{Result}

pub record Made {A : Type 0} (o : A) (f : ℕ → A) (s i : ℕ) (l l' : List A) : Type 0 where
  pub size : length l' ≡ length l
  pub on : (k : ℕ) → k < i → s ≤ k → get_or l' k o ≡ f k
  pub below : (k : ℕ) → k < s → get_or l' k o ≡ get_or l k o
  pub above : (k : ℕ) → i ≤ k → get_or l' k o ≡ get_or l k o

module _ {A : Type 0} {o : A} {f : ℕ → A} {l : List A} where
  pub made_none : {s : ℕ} → Made o f s s l l
  made_none = record { size = refl; on = λ k h g. absurd (omega arith); below = λ k h. refl; above = λ k h. refl }

  pub made_more : {s i : ℕ} {l' : List A} {v : A} → Made o f s i l l' → s ≤ i → i < length l → v ≡ f i → Made o f s (i + 1) l (set l' i v)
  made_more {s} {i} {l'} {v} m g h e = record {
    size = length-set l' i v ∙ m.size;
    on = below_more (λ k. s ≤ k → get_or (set l' i v) k o ≡ f k) i
        (λ k b p. get_or-set_other l' i k v o (λ q. omega arith) ∙ m.on k b p)
        (λ p. get_or-set_same l' i v o (omega (arith, m.size)) ∙ e);
    below = λ k b. get_or-set_other l' i k v o (λ q. omega arith) ∙ m.below k b;
    above = λ k b. get_or-set_other l' i k v o (λ q. omega arith) ∙ m.above k (omega arith);
  }

  pub made_all : {i : ℕ} {l' : List A} → Made o f 0 i l l' → length l ≤ i → Result o true f l l'
  made_all m h = record { size = m.size; cell = λ k b. m.on k (omega arith) (omega arith) }
