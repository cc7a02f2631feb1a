-- A copy of n cells, of any kind, in a loop.
--
--   Copying o x from at n l l' k == so far the first k of the n cells are copied
--
-- Assumes nothing.
use mathlib.Core.Path.{◌≡◌, refl, ap, ◌∙◌}
use mathlib.Core.List.{List}
use Prim.Native.Nat.{ℕ, ◌+◌, ◌<◌, ◌≤◌}
use native.Mathlib.Nat.{add-zero}
use native.Mathlib.Omega.{arith}
use borrow.Author.Count.{below_more, below_none}
use lib.ListN.{length, get_or, set, length-set}
use lib.Seq.{get_or-set_same, get_or-set_other, ext_get_or}
use Rattle.earlier_passes.specs.Copied.{Room, Copied}

-- ---- a copy of one cell, and of one after others
module _ {A : Type 0} {o : A} {x : List A} {from at : ℕ} where
  pub copied_one : {l : List A} {v : A} → v ≡ get_or x from o → at < length l → Copied o x from at 1 l (set l at v)
  copied_one {l} {v} e h = record {
    size = length-set l at v;
    on = λ k p.
        let there : at + k ≡ at = omega arith in let here : from ≡ from + k = omega arith in
        ap (λ i. get_or (set l at v) i o) there ∙ get_or-set_same l at v o h ∙ e ∙ ap (λ i. get_or x i o) here;
    below = λ i p. get_or-set_other l at i v o (λ e. omega arith);
    above = λ i p. get_or-set_other l at i v o (λ e. omega arith);
  }

  copied_more : {l l' l'' : List A} {k : ℕ} → Copied o x from at k l l' → Copied o x (from + k) (at + k) 1 l' l'' → Copied o x from at (k + 1) l l''
  copied_more {l'' = l''} {k = k} p q = record {
    size = q.size ∙ p.size;
    on = below_more (λ i. get_or l'' (at + i) o ≡ get_or x (from + i) o) k (λ i h. q.below (at + i) (omega arith) ∙ p.on i h) (simp add-zero at (q.on 0 (omega arith)));
    below = λ i h. q.below i (omega arith) ∙ p.below i h;
    above = λ i h. q.above i (omega arith) ∙ p.above i (omega arith);
  }

-- ---- the loop
pub record Copying {A : Type 0} (o : A) (x : List A) (from at n : ℕ) (l l' : List A) (k : ℕ) : Type 0 where
  pub room : Room x from at n l
  pub count : k ≤ n
  pub so_far : Copied o x from at k l l'

module _ {A : Type 0} {o : A} {x : List A} {from at n : ℕ} {l : List A} where
  pub copying_none : Room x from at n l → Copying o x from at n l l 0
  copying_none r = record { room = r; count = omega arith; so_far = record { size = refl; on = below_none _; below = λ i h. refl; above = λ i h. refl } }

  module _ {l' : List A} {k : ℕ} (p : Copying o x from at n l l' k) where
    pub copying_next : k < n → (from + k < length x) × (at + k < length l')
    copying_next h = (p.room.source k h, omega (arith, p.room.target k h, p.so_far.size))

    pub copying_more : {v : A} → k < n → v ≡ get_or x (from + k) o → Copying o x from at n l (set l' (at + k) v) (k + 1)
    copying_more h e = record { room = p.room; count = omega arith; so_far = copied_more p.so_far (copied_one e (copying_next h).1) }

    pub copying_all : n ≤ k → Copied o x from at n l l'
    copying_all h = let e : k ≡ n = omega (arith, p.count) in rw e at p.so_far

-- ---- the first n cells
module _ {A : Type 0} (o : A) (x : List A) (n : ℕ) {l : List A} where
  pub front_room : n ≤ length x → n ≤ length l → Room x 0 0 n l
  front_room h g = record { source = λ k b. omega arith; target = λ k b. omega arith }

  pub front_cell : {l' : List A} → Copied o x 0 0 n l l' → (i : ℕ) → i < n → get_or l' i o ≡ get_or x i o
  front_cell {l'} c i h = let e : 0 + i ≡ i = omega arith in rw e at (c.on i h)

  -- all of them
  pub copied_whole : {l' : List A} → n ≡ length x → length l ≡ length x → Copied o x 0 0 n l l' → l' ≡ x
  copied_whole {l'} e s c = ext_get_or o l' x (c.size ∙ s) (λ i h. front_cell c i (omega (arith, c.size)))
