-- A loop that turns the pairs of two runs of a buffer into other pairs, one after the other.
--
--   Pairing f g a b n l l' k == so far the first k of n pairs, from places a and b on, are what f and g say of them
--   Seen l l' k q            == the k-th number from place q on of l', read back from its bits, is that of l
--
-- Assumes nothing.
use mathlib.Core.Path.{◌≡◌, refl, ◌∙◌}
use mathlib.Core.List.{List}
use Prim.Native.Nat.{ℕ, ◌+◌, ◌<◌, ◌≤◌, ◌^◌}
use native.Mathlib.Omega.{arith}
use borrow.Author.Count.{below_more}
use borrow.Author.Rules.{sfits_of}
use lib.IntN.{ℤ, pos}
use lib.ListN.{length, set, length-set}
use lib.Seq.{get_or-set_same, get_or-set_other}
use lib.Signed.{mag}
use mir.Syntax.{w32}
use mir.Val.{to_z, of_z, hbits}
use mir.Facts.{to_z-of_z}
use Rattle.line.specs.Cells.{cell}
use Rattle.runs.specs.Cells.{Pairs}
use Rattle.runs.specs.Steps.{Apart}

pub record Pairing (f g : ℤ → ℤ → ℤ) (a b n : ℕ) (l l' : List ℤ) (k : ℕ) : Type 0 where
  pub room : (a + n ≤ length l) × (b + n ≤ length l)
  pub count : k ≤ n
  pub so_far : Pairs (λ i. f (cell l (a + i)) (cell l (b + i))) (λ i. g (cell l (a + i)) (cell l (b + i))) a b k l l'

abbrev pub Seen : List ℤ → List ℤ → ℕ → ℕ → Type 0
Seen l l' k q = to_z w32 (of_z w32 (cell l' (q + k))) ≡ cell l (q + k)

pub pairing_none : {f g : ℤ → ℤ → ℤ} {a b n : ℕ} {l : List ℤ} → (a + n ≤ length l) × (b + n ≤ length l) → Pairing f g a b n l l 0
pairing_none h = record {
  room = h;
  count = omega arith;
  so_far = record { size = refl; first = λ k h. absurd (omega arith); second = λ k h. absurd (omega arith); off = λ i p q. refl };
}

pub pairing_all : {f g : ℤ → ℤ → ℤ} {a b n k : ℕ} {l l' : List ℤ} → Pairing f g a b n l l' k → n ≤ k
    → Pairs (λ i. f (cell l (a + i)) (cell l (b + i))) (λ i. g (cell l (a + i)) (cell l (b + i))) a b n l l'
pairing_all {n = n} {k = k} m h = let e : n ≡ k = omega (arith, m.count) in rw e m.so_far

-- a turn writes the next pair
module _ {f g : ℤ → ℤ → ℤ} {a b n k : ℕ} {l l' : List ℤ} (apart : Apart a b n) (m : Pairing f g a b n l l' k) (h : k < n) where
  pub seen_pair : mag (cell l' (a + k)) < 2 ^ hbits w32 → mag (cell l' (b + k)) < 2 ^ hbits w32 → Seen l l' k a × Seen l l' k b
  seen_pair p q = (
    to_z-of_z {w = w32} (sfits_of p) ∙ m.so_far.off (a + k) (λ j j< e. omega arith) (λ j j< e. apart k j h (omega arith) e),
    to_z-of_z {w = w32} (sfits_of q) ∙ m.so_far.off (b + k) (λ j j< e. apart j k (omega arith) h (omega arith)) (λ j j< e. omega arith),
  )

  pub pairing_more : {v w : ℤ} → v ≡ f (cell l (a + k)) (cell l (b + k)) → w ≡ g (cell l (a + k)) (cell l (b + k))
      → Pairing f g a b n l (set (set l' (a + k) v) (b + k) w) (k + 1)
  pairing_more {v} {w} d e =
      let size = m.so_far.size in
      let mid = set l' (a + k) v in
      let long : length mid ≡ length l' = length-set l' (a + k) v in
      let other : (i : ℕ) → (i ≡ a + k → ⊥) → (i ≡ b + k → ⊥) → cell (set mid (b + k) w) i ≡ cell l' i
      = λ i p q. get_or-set_other mid (b + k) i w (pos 0) q ∙ get_or-set_other l' (a + k) i v (pos 0) p in
      record {
        room = m.room;
        count = omega arith;
        so_far = record {
          size = length-set mid (b + k) w ∙ long ∙ size;
          first = below_more (λ i. cell (set mid (b + k) w) (a + i) ≡ f (cell l (a + i)) (cell l (b + i))) k
              (λ i i<. other (a + i) (omega arith) (apart i k (omega arith) h) ∙ m.so_far.first i i<)
              (get_or-set_other mid (b + k) (a + k) w (pos 0) (apart k k h h) ∙ get_or-set_same l' (a + k) v (pos 0) (omega (arith, m.room)) ∙ d);
          second = below_more (λ i. cell (set mid (b + k) w) (b + i) ≡ g (cell l (a + i)) (cell l (b + i))) k
              (λ i i<. other (b + i) (λ p. apart k i h (omega arith) (omega arith)) (omega arith) ∙ m.so_far.second i i<)
              (get_or-set_same mid (b + k) w (pos 0) (omega (arith, m.room)) ∙ e);
          off = λ i p q. other i (p k (omega arith)) (q k (omega arith)) ∙ m.so_far.off i (λ j j<. p j (omega arith)) (λ j j<. q j (omega arith));
        };
      }
