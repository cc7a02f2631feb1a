-- Cells that are written two by two in a loop.
--
--   Writing o F G f g p q l l' n == so far the first n of each are written
--
-- Assumes nothing.
use mathlib.Core.Path.{◌≡◌, refl, sym, ◌∙◌}
use mathlib.Core.List.{List}
use Prim.Native.Nat.{ℕ, ◌+◌, ◌*◌, ◌/◌, ◌<◌, ◌≤◌}
use native.Mathlib.Omega.{arith}
use borrow.Author.Count.{below_more}
use lib.ListN.{length, get_or, set, length-set}
use lib.Seq.{get_or-set_same, get_or-set_other}
use Rattle.line.specs.Cells.{low_side}
use Rattle.transfer.specs.Moved.{Places, Twofold}

pub record Writing {A : Type 0} (o : A) (F G : ℕ → A) (f g : ℕ → ℕ) (p q : ℕ) (l l' : List A) (n : ℕ) : Type 0 where
  pub places : Places f g p q l
  pub some_p : n ≤ p
  pub some_q : n ≤ q
  pub so_far : Twofold o F G f g n n l l'

module _ {A : Type 0} {o : A} {F G : ℕ → A} {f g : ℕ → ℕ} {p q : ℕ} {l : List A} where
  pub writing_none : Places f g p q l → Writing o F G f g p q l l 0
  writing_none s = record {
    places = s;
    some_p = omega arith;
    some_q = omega arith;
    so_far = record { size = refl; first = λ k h. absurd (omega arith); second = λ k h. absurd (omega arith); off = λ i a b. refl };
  }

  module _ {l' : List A} {n : ℕ} (r : Writing o F G f g p q l l' n) where
    pub writing_next : n < p → f n < length l'
    writing_next h = omega (arith, r.places.first n h, r.so_far.size)

    pub writing_pair : n < p → n < q → (f n < length l') × (g n < length l')
    writing_pair h j = omega (arith, writing_next h, r.places.second n j, r.so_far.size)

    pub writing_more : {v u : A} → n < p → n < q → v ≡ F n → u ≡ G n → Writing o F G f g p q l (set (set l' (f n) v) (g n) u) (n + 1)
    writing_more {v} {u} h j d e =
        let s = r.so_far in let q = r.places in let l₁ = set l' (f n) v in let l₂ = set l₁ (g n) u in record {
          places = q;
          some_p = omega arith;
          some_q = omega arith;
          so_far = record {
            size = length-set l₁ (g n) u ∙ length-set l' (f n) v ∙ s.size;
            first = below_more (λ k. get_or l₂ (f k) o ≡ F k) n
                (λ k lt. get_or-set_other l₁ (g n) (f k) u o (λ w. q.apart k n (omega arith) j w) ∙ get_or-set_other l' (f n) (f k) v o (λ w. q.firsts k n lt w) ∙ s.first k lt)
                (get_or-set_other l₁ (g n) (f n) u o (λ w. q.apart n n h j w) ∙ get_or-set_same l' (f n) v o (writing_next h) ∙ d);
            second = below_more (λ k. get_or l₂ (g k) o ≡ G k) n
                (λ k lt. get_or-set_other l₁ (g n) (g k) u o (λ w. q.seconds k n lt w) ∙ get_or-set_other l' (f n) (g k) v o (λ w. q.apart n k h (omega arith) (sym w)) ∙ s.second k lt)
                (get_or-set_same l₁ (g n) u o (omega (arith, writing_pair h j, length-set l' (f n) v)) ∙ e);
            off = λ i a b. get_or-set_other l₁ (g n) i u o (λ w. b n (omega arith) w) ∙ get_or-set_other l' (f n) i v o (λ w. a n (omega arith) w)
                ∙ s.off i (λ k lt. a k (omega arith)) (λ k lt. b k (omega arith));
          };
        }

    -- all pairs, and no more
    pub writing_all : p ≤ n → q ≤ n → Twofold o F G f g p q l l'
    writing_all i j = let d : n ≡ p = omega (arith, r.some_p) in let e : n ≡ q = omega (arith, r.some_q) in
        let s = r.so_far in record {
          size = s.size;
          first = λ k h. s.first k (omega arith);
          second = λ k h. s.second k (omega arith);
          off = λ i a b. s.off i (λ k lt. a k (omega arith)) (λ k lt. b k (omega arith));
        }

    -- all pairs, and one more
    pub writing_last : {v : A} → n < p → p ≤ n + 1 → q ≤ n → v ≡ F n → Twofold o F G f g p q l (set l' (f n) v)
    writing_last {v} h i j d =
        let s = r.so_far in let t = r.places in let l₁ = set l' (f n) v in record {
          size = length-set l' (f n) v ∙ s.size;
          first = λ k lt. below_more (λ k. get_or l₁ (f k) o ≡ F k) n
              (λ k lt. get_or-set_other l' (f n) (f k) v o (λ w. t.firsts k n lt w) ∙ s.first k lt)
              (get_or-set_same l' (f n) v o (writing_next h) ∙ d) k (omega arith);
          second = λ k lt. get_or-set_other l' (f n) (g k) v o (λ w. t.apart n k h lt (sym w)) ∙ s.second k (omega (arith, r.some_q));
          off = λ i a b. get_or-set_other l' (f n) i v o (λ w. a n h w) ∙ s.off i (λ k lt. a k (omega arith)) (λ k lt. b k (omega (arith, r.some_q)));
        }

-- ---- two runs that are apart, and cells in turn
pub runs_places : {A : Type 0} (a b p q : ℕ) (l : List A) → a + p ≤ length l → b + q ≤ length l → ((i k : ℕ) → i < p → k < q → a + i ≡ b + k → ⊥)
    → Places (λ k. a + k) (λ k. b + k) p q l
runs_places a b p q l fits-a fits-b d = record {
  first = λ k h. omega arith;
  second = λ k h. omega arith;
  apart = d;
  firsts = λ i k h e. omega arith;
  seconds = λ i k h e. omega arith;
}

pub turns_places : {A : Type 0} (at w : ℕ) (l : List A) → at + w ≤ length l → Places (λ k. at + 2 * k) (λ k. at + 2 * k + 1) (low_side w) (w / 2) l
turns_places at w l fits = record {
  first = λ k h. omega arith;
  second = λ k h. omega arith;
  apart = λ i k h j e. omega arith;
  firsts = λ i k h e. omega arith;
  seconds = λ i k h e. omega arith;
}
