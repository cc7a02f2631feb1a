-- A copy of n cells, of any kind, in a loop, and a run of cells that is written over a part of a list.
--
--   Copying o x from at n l l' k == so far the first k of the n cells are copied
--
-- Assumes nothing.
use mathlib.Core.Path.{◌≡◌, refl, sym, ap, ◌∙◌}
use mathlib.Core.List.{List, ◌++◌}
use Prim.Native.Nat.{ℕ, ◌+◌, ◌-◌, ◌<◌, ◌≤◌}
use native.Mathlib.Nat.{add-zero}
use native.Mathlib.Omega.{arith}
use borrow.Author.Count.{below_more, below_none}
use lib.ListN.{length, get_or, set, take, drop, length-set}
use lib.Seq.{length-take-le, get_or-set_same, get_or-set_other}
use borrow.Rule.Slice.PartMut.{put_mid, same_len_mid, post_of, mid_len}
use Rattle.std.proofs.lemmas.List.{get_or_append_left, get_or-append_right, get_or-take, get_or-drop}
use Rattle.transfer.specs.Copied.{Room, Copied}

-- ---- a copy of one cell, and of one after others
module _ {A : Type 0} {o : A} {x : List A} {from at : ℕ} where
  copied_one : {l : List A} {v : A} → v ≡ get_or x from o → at < length l → Copied o x from at 1 l (set l at v)
  copied_one {l} {v} e h = record {
    size = length-set l at v;
    on = λ k p.
        let there : at + k ≡ at = omega arith in let here : from ≡ from + k = omega arith in
        ap (λ i. get_or (set l at v) i o) there ∙ get_or-set_same l at v o h ∙ e ∙ ap (λ i. get_or x i o) here;
    below = λ i p. get_or-set_other l at i v o (λ e. omega arith);
    above = λ i p. get_or-set_other l at i v o (λ e. omega arith);
  }

  copied_more : {l l' l'' : List A} {k : ℕ} → Copied o x from at k l l' → Copied o x (from + k) (at + k) 1 l' l'' → Copied o x from at (k + 1) l l''
  copied_more {l'' = l''} {k = k} p q = record {
    size = q.size ∙ p.size;
    on = below_more (λ i. get_or l'' (at + i) o ≡ get_or x (from + i) o) k (λ i h. q.below (at + i) (omega arith) ∙ p.on i h) (simp add-zero at (q.on 0 (omega arith)));
    below = λ i h. q.below i (omega arith) ∙ p.below i h;
    above = λ i h. q.above i (omega arith) ∙ p.above i (omega arith);
  }

-- ---- the loop
pub record Copying {A : Type 0} (o : A) (x : List A) (from at n : ℕ) (l l' : List A) (k : ℕ) : Type 0 where
  pub room : Room x from at n l
  pub count : k ≤ n
  pub so_far : Copied o x from at k l l'

module _ {A : Type 0} {o : A} {x : List A} {from at n : ℕ} {l : List A} where
  pub copying_none : Room x from at n l → Copying o x from at n l l 0
  copying_none r = record { room = r; count = omega arith; so_far = record { size = refl; on = below_none _; below = λ i h. refl; above = λ i h. refl } }

  module _ {l' : List A} {k : ℕ} (p : Copying o x from at n l l' k) where
    pub copying_next : k < n → (from + k < length x) × (at + k < length l')
    copying_next h = (p.room.source k h, omega (arith, p.room.target k h, p.so_far.size))

    pub copying_more : {v : A} → k < n → v ≡ get_or x (from + k) o → Copying o x from at n l (set l' (at + k) v) (k + 1)
    copying_more h e = record { room = p.room; count = omega arith; so_far = copied_more p.so_far (copied_one e (copying_next h).1) }

    pub copying_all : n ≤ k → Copied o x from at n l l'
    copying_all h = let e : k ≡ n = omega (arith, p.count) in rw e at p.so_far

-- ---- the first n cells
module _ {A : Type 0} (o : A) (x : List A) (n : ℕ) {l : List A} where
  pub front_room : n ≤ length x → n ≤ length l → Room x 0 0 n l
  front_room h g = record { source = λ k b. omega arith; target = λ k b. omega arith }

  pub front_cell : {l' : List A} → Copied o x 0 0 n l l' → (i : ℕ) → i < n → get_or l' i o ≡ get_or x i o
  front_cell {l'} c i h = let e : 0 + i ≡ i = omega arith in rw e at (c.on i h)

-- ---- the list after a write of the cells y over its places from a up to e
module _ {A : Type 0} (o : A) (a e : ℕ) (l y : List A) (h : a ≤ e) (g : e ≤ length l) (same : length y ≡ e - a) where
  abbrev after : List A
  after = put_mid a (e - a) l y

  front : length (take a l) ≡ a
  front = length-take-le a l (omega arith)

  pub mid_size : length after ≡ length l
  mid_size = same_len_mid a (e - a) l y (same ∙ sym (mid_len a e l g))

  pub mid_on : (k : ℕ) → k < e - a → get_or after (a + k) o ≡ get_or y k o
  mid_on k p = get_or-append_right (take a l) (y ++ post_of a (e - a) l) a (a + k) o front (omega arith)
      ∙ ap (λ i. get_or (y ++ post_of a (e - a) l) i o) (omega arith) ∙ get_or_append_left y (post_of a (e - a) l) o k (omega (arith, same))

  pub mid_below : (i : ℕ) → i < a → get_or after i o ≡ get_or l i o
  mid_below i p = get_or_append_left (take a l) (y ++ post_of a (e - a) l) o i (omega (arith, front)) ∙ get_or-take a l i o p

  pub mid_above : (i : ℕ) → e ≤ i → get_or after i o ≡ get_or l i o
  mid_above i p = get_or-append_right (take a l) (y ++ post_of a (e - a) l) a i o front (omega arith)
      ∙ get_or-append_right y (post_of a (e - a) l) (e - a) (i - a) o same (omega arith)
      ∙ get_or-drop (e - a) (drop a l) (i - a - (e - a)) o ∙ get_or-drop a l _ o ∙ ap (λ j. get_or l j o) (omega arith)

-- ---- a copy of n cells, as `copy_from_slice` makes it: between parts, from the front, and to the front
module _ {A : Type 0} (o : A) {x l y : List A} where
  pub copied : (from at n : ℕ) → from + n ≤ length x → at + n ≤ length l → y ≡ take (from + n - from) (drop from x) → Copied o x from at n l (put_mid at (at + n - at) l y)
  copied from at n inside room same =
      let many : length y ≡ at + n - at = rw same (mid_len from (from + n) x inside ∙ omega arith) in record {
        size = mid_size o at (at + n) l y (omega arith) room many;
        on = λ k p. mid_on o at (at + n) l y (omega arith) room many k (omega arith) ∙ ap (λ z. get_or z k o) same ∙ get_or-take (from + n - from) (drop from x) k o (omega arith) ∙ get_or-drop from x k o;
        below = mid_below o at (at + n) l y (omega arith) room many;
        above = mid_above o at (at + n) l y (omega arith) room many;
      }

  pub front_copied : (at n : ℕ) → n ≤ length x → at + n ≤ length l → y ≡ take n x → Copied o x 0 at n l (put_mid at (at + n - at) l y)
  front_copied at n inside room same = let e : 0 + n - 0 ≡ n = omega arith in copied 0 at n (omega arith) room (rw e same)

  pub copied_front : (from n : ℕ) → from + n ≤ length x → n ≤ length l → y ≡ take (from + n - from) (drop from x) → Copied o x from 0 n l (y ++ drop n l)
  copied_front from n inside room same = let e : 0 + n - 0 ≡ n = omega arith in rw e at (copied from 0 n inside (omega arith) same)
