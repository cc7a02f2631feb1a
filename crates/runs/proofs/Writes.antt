-- A run of numbers that a loop writes, one after the other: nothing is written at first, each turn writes one number more, and what is not
-- written is as it was. Assumes nothing.
use mathlib.Core.Path.{◌≡◌, refl, ◌∙◌}
use mathlib.Core.List.{List}
use Prim.Native.Nat.{ℕ, ◌+◌, ◌-◌, ◌<◌}
use native.Mathlib.Omega.{arith}
use borrow.Author.Count.{below_more}
use lib.IntN.{ℤ, pos}
use lib.ListN.{length, set, length-set}
use lib.Seq.{get_or-set_same, get_or-set_other}
use Rattle.line.specs.Cells.{cell}
use Rattle.line.proofs.Cells.{by_lt}
use Rattle.runs.specs.Cells.{Written}

pub written_none : {g : ℕ → ℤ} {s : ℕ} {l : List ℤ} → Written g s 0 l l
written_none = record { size = refl; on = λ k h. absurd (omega arith); below = λ i h. refl; above = λ i h. refl }

pub written_more : {g : ℕ → ℤ} {s k : ℕ} {l l' : List ℤ} {v : ℤ} (i : ℕ) → Written g s k l l' → i ≡ s + k → i < length l → v ≡ g k
    → Written g s (k + 1) l (set l' i v)
written_more {g} {s} {k} {l} {l'} {v} i w place h e =
    let size = w.size in
    let other : (j : ℕ) → (j ≡ i → ⊥) → cell (set l' i v) j ≡ cell l' j
    = λ j n. get_or-set_other l' i j v (pos 0) n in
    record {
      size = length-set l' i v ∙ w.size;
      on = below_more (λ j. cell (set l' i v) (s + j) ≡ g j) k
          (λ j j<. other (s + j) (omega arith) ∙ w.on j j<)
          (rw (← place) (get_or-set_same l' i v (pos 0) (omega arith) ∙ e));
      below = λ j j<. other j (omega arith) ∙ w.below j j<;
      above = λ j j>. other j (omega arith) ∙ w.above j (omega arith);
    }

pub written_all : {g : ℕ → ℤ} {s k : ℕ} {l l' : List ℤ} (n : ℕ) → Written g s k l l' → k ≡ n → Written g s n l l'
written_all n w e = rw (← e) w

pub written_kept : {g : ℕ → ℤ} {s k : ℕ} {l l' : List ℤ} → Written g s k l l' → (i : ℕ) → ((j : ℕ) → j < k → s + j ≡ i → ⊥)
    → cell l' i ≡ cell l i
written_kept {g} {s} {k} w i off = by_lt i s (w.below i)
    (λ ge. by_lt i (s + k) (λ lt. absurd (off (i - s) (omega arith) (omega arith))) (w.above i))
