-- The laws of stages: what one stage of a kernel makes of the parts of each line, one after the other; and that every number fits 32 bits.
--
--   Local r p q F == F's first r numbers are computed from the first p of the first part and the first q of the second
--
-- Assumes nothing.
use mathlib.Core.Path.{◌≡◌, refl, sym, ap, ap₂, ◌∙◌}
use mathlib.Core.Logic.{◌⊎◌, inl, inr}
use mathlib.Core.Bool.{Bool, true, false}
use mathlib.Core.List.{List}
use Prim.Native.Nat.{ℕ, ◌+◌, ◌*◌, ◌-◌, ◌/◌, ◌%◌, ◌^◌, ◌<◌, ◌≤◌, min}
use native.Mathlib.Omega.{arith}
use lib.Arith.{digits_lt}
use lib.Dec.{T, ltb}
use lib.IntN.{ℤ}
use lib.ListN.{length}
use borrow.Author.Tests.{lt-ltb, le-ltb}
use mir.Syntax.{w32}
use Rattle.whole.specs.Within.{Within}
use Rattle.whole.proofs.Linear.{lin, ι_split, within_fits}
use Rattle.kernel.specs.declared.Kernel.{Kernel}
use Rattle.kernel.specs.declared.Kernel.TheVariants as kernel
use Rattle.line.specs.Cells.{Line, cell}
use Rattle.line.specs.Inner.{AllWithin, Agree}
use Rattle.line.specs.Transform.{update}
use Rattle.line.proofs.Bounds.{add_within, sub_within, first_within, second_within, within_more, predict_within, update_within}
use Rattle.line.proofs.Cells.{by_lt}
use Rattle.steps.specs.Moved.{moved}
use Rattle.runs.specs.Cells.{Pairs}
use Rattle.runs.specs.Step.{Step, SPlusP, TT, High, Low}
use Rattle.lifting.specs.Parts.{lane, Parts, Bounded, Both}
use Rattle.lifting.specs.Steps.{amount, movable, EndToEnd, Fit, Lifted}
use Rattle.runs.specs.Steps.{Apart}
use Rattle.runs.specs.Pair.{pair_first, pair_second, PairFit}
use Rattle.lifting.specs.Lines.{firsts, seconds, pair_lows, Pairable, RowsWithin, first_lows, first_highs}
use Rattle.lifting.proofs.Rows.{run_inside, row_place, row_in, line_in, run_place, same_row, parts_swap, rows_other}
use Rattle.lifting.proofs.Lifts.{amount_local, runs_apart}

abbrev pub Local : ℕ → ℕ → ℕ → (Line ℤ → Line ℤ → Line ℤ) → Type 0
Local r p q F = (A A' B B' : Line ℤ) → Agree p A A' → Agree q B B' → Agree r (F A B) (F A' B')

-- ---- a stage, and the next
module _ {a b t c p q : ℕ} where
  pub both_then : {F G F' G' : Line ℤ → Line ℤ → Line ℤ} {l l' l'' : List ℤ} → Local p p q F' → Local q p q G' → Both F G a b t c 0 p q l l' → Both F' G' a b t c 0 p q l' l''
      → Both (λ A B. F' (F A B) (G A B)) (λ A B. G' (F A B) (G A B)) a b t c 0 p q l l''
  both_then x y f g = record {
    size = g.size ∙ f.size;
    first = λ n j o h k. g.first n j o h k ∙ x _ _ _ _ (λ i lt. f.first i j (omega arith) lt k) (λ i lt. f.second i j (omega arith) lt k) n h;
    second = λ n j o h k. g.second n j o h k ∙ y _ _ _ _ (λ i lt. f.first i j (omega arith) lt k) (λ i lt. f.second i j (omega arith) lt k) n h;
    off = λ i u v. g.off i u v ∙ f.off i u v;
  }

  pub both_as : {F G F' G' : Line ℤ → Line ℤ → Line ℤ} {l l' : List ℤ} → ((A B : Line ℤ) → Agree p (F A B) (F' A B)) → ((A B : Line ℤ) → Agree q (G A B) (G' A B))
      → Both F G a b t c 0 p q l l' → Both F' G' a b t c 0 p q l l'
  both_as x y f = record {
    size = f.size;
    first = λ n j o h k. f.first n j o h k ∙ x _ _ n h;
    second = λ n j o h k. f.second n j o h k ∙ y _ _ n h;
    off = f.off;
  }

  -- a step on the rows d up to e of the second part, and of the first
  module _ {s : Step} {add : Bool} {M : ℕ} {l l' : List ℤ} (d e f : ℕ) (pe : e ≤ p) (qf : f ≤ q) (g : Parts a b t p q c (length l)) where
    pub rows_second : Lifted s add M c d f b a t l l' → Both (λ A B. A) (λ A B n. moved add (B n) (amount s M A n)) a b t c d e f l l'
    rows_second x = record {
      size = x.rows.size;
      first = λ n j o h k. rows_other d f (parts_swap g) qf x.rows n j (omega arith) k;
      second = x.rows.on;
      off = λ i u v. x.rows.off i v;
    }

    pub rows_first : Lifted s add M c d e a b t l l' → Both (λ A B n. moved add (A n) (amount s M B n)) (λ A B. B) a b t c d e f l l'
    rows_first x = record {
      size = x.rows.size;
      first = x.rows.on;
      second = λ n j o h k. rows_other d e g pe x.rows n j (omega arith) k;
      off = λ i u v. x.rows.off i u;
    }

pub both_none : (a b t c d p q : ℕ) (l : List ℤ) → Both (λ A B. A) (λ A B. B) a b t c d p q l l
both_none a b t c d p q l = record { size = refl; first = λ n j o h k. refl; second = λ n j o h k. refl; off = λ i x y. refl }

-- from no rows the lows are not moved
moved_none : (add : Bool) (z : ℤ) (B : Line ℤ) (n : ℕ) → moved add z (amount Low 0 B n) ≡ z
unfolding update
moved_none true z B n = rw (ι_split z) (simp lin (omega arith))
moved_none false z B n = rw (ι_split z) (simp lin (omega arith))

pub lows_stay : (add : Bool) {a b t c q K : ℕ} {l l' : List ℤ} (d e : ℕ) → K ≡ 0 → Both (λ A B. A) (λ A B. B) a b t c d e q l l'
    → Both (λ A B n. moved add (A n) (amount Low K B n)) (λ A B. B) a b t c d e q l l'
lows_stay add d e none f = rw none (record {
  size = f.size;
  first = λ n j o h k. f.first n j o h k ∙ sym (moved_none add _ _ n);
  second = f.second;
  off = f.off;
})

-- ---- pairs, as a run of rows and row after row
module _ (join : Bool) {a b t c : ℕ} {l l' : List ℤ} where
  pub pair_run : (n r : ℕ) → EndToEnd t c r
      → Pairs (λ k. pair_first join (cell l (a + n * t + k)) (cell l (b + n * t + k))) (λ k. pair_second join (cell l (a + n * t + k)) (cell l (b + n * t + k))) (a + n * t) (b + n * t) (r * c) l l'
      → Both (firsts join) (seconds join) a b t c n (n + r) (n + r) l l'
  pair_run n r x p = record {
    size = p.size;
    first = λ m j q h k. let i = m - n in let d : n + i ≡ m = omega arith in let g = x.follow i (omega arith) in
        let s : lane a t l' j (n + i) ≡ pair_first join (lane a t l j (n + i)) (lane b t l j (n + i))
        = ap (cell l') (row_place a t c n i j g) ∙ p.first (i * c + j) (digits_lt (omega arith) k)
        ∙ ap₂ (pair_first join) (ap (cell l) (sym (row_place a t c n i j g))) (ap (cell l) (sym (row_place b t c n i j g))) in
        rw d at s;
    second = λ m j q h k. let i = m - n in let d : n + i ≡ m = omega arith in let g = x.follow i (omega arith) in
        let s : lane b t l' j (n + i) ≡ pair_second join (lane a t l j (n + i)) (lane b t l j (n + i))
        = ap (cell l') (row_place b t c n i j g) ∙ p.second (i * c + j) (digits_lt (omega arith) k)
        ∙ ap₂ (pair_second join) (ap (cell l) (sym (row_place a t c n i j g))) (ap (cell l) (sym (row_place b t c n i j g))) in
        rw d at s;
    off = λ i y z. p.off i
        (λ k h e. y (n + k / c) (k % c) (omega arith) (omega (arith, row_in x a n k h)) (line_in x a n k h) (e ∙ run_place x a n k h))
        (λ k h e. z (n + k / c) (k % c) (omega arith) (omega (arith, row_in x b n k h)) (line_in x b n k h) (e ∙ run_place x b n k h));
  }

-- the places of such a run
module _ (n r : ℕ) {a b t c size : ℕ} (g : Parts a b t (n + r) (n + r) c size) (x : EndToEnd t c r) (some : 0 < r) where
  pub pairs_inside : (a + n * t + r * c ≤ size) × (b + n * t + r * c ≤ size)
  pairs_inside = (run_inside n r g.first x some g.lines (omega arith), run_inside n r g.second x some g.lines (omega arith))

  pub pairs_apart : Apart (a + n * t) (b + n * t) (r * c)
  pairs_apart = runs_apart n n r g x (omega arith) (omega arith)

-- ---- the first part of K pairs, and of a number behind them
module _ (join : Bool) (K n : ℕ) (A B : Line ℤ) where
  pub lows_pair : n < K → pair_lows join K A B n ≡ pair_first join (A n) (B n)
  unfolding pair_lows
  lows_pair h = simp (lt-ltb n K h)

  pub lows_alone : K ≤ n → pair_lows join K A B n ≡ A n
  unfolding pair_lows
  lows_alone h = simp (le-ltb n K h)

-- rows d up to e, as far as there are q pairs
pub pairs_some : (join : Bool) {a b t c p q : ℕ} {l l' : List ℤ} (d e : ℕ) → Parts a b t p q c (length l) → e ≤ p
    → Both (firsts join) (seconds join) a b t c (min d q) (min e q) (min e q) l l' → Both (pair_lows join q) (seconds join) a b t c d e (min e q) l l'
pairs_some join {a} {b} {t} {c} {p} {q} d e g top f = record {
  size = f.size;
  first = λ n j o h k. by_lt n q
      (λ lt. f.first n j (omega arith) (omega arith) k ∙ sym (lows_pair join q n _ _ lt))
      (λ ge. f.off (a + n * t + j)
      (λ n' j' u v r s. omega (arith, same_row a t c n j n' j' g.wide k r s)) (λ n' j' u v r s. g.apart n j n' j' (omega arith) k (omega arith) r s)
      ∙ sym (lows_alone join q n _ _ ge));
  second = λ n j o h k. f.second n j (omega arith) h k;
  off = λ i u v. f.off i (λ n j o h k. u n j (omega arith) (omega arith) k) (λ n j o h k. v n j (omega arith) h k);
}

-- which is the first step of kernels 0 to 2
pub first_pairs : {k : Kernel} (undo : Bool) (M K : ℕ) {a b t c d e f : ℕ} {l l' : List ℤ} → (k ≡ kernel.S) ⊎ (k ≡ kernel.SPlusP) ⊎ (k ≡ kernel.TT)
    → Both (pair_lows undo K) (seconds undo) a b t c d e f l l' → Both (first_lows undo k K) (first_highs undo k M) a b t c d e f l l'
first_pairs undo M K (inl e) x = rw e x
first_pairs undo M K (inr (inl e)) x = rw e x
first_pairs undo M K (inr (inr e)) x = rw e x

pub pairs_able : (join : Bool) {a b t c r : ℕ} {l : List ℤ} (n : ℕ) → EndToEnd t c r → Pairable join a b t c n (n + r) l
    → (k : ℕ) → k < r * c → PairFit join (cell l (a + n * t + k)) (cell l (b + n * t + k))
pairs_able join {a} {b} {t} {c} n x p k h =
    rw (run_place x a n k h, run_place x b n k h) (p.each (n + k / c) (k % c) (omega arith) (omega (arith, row_in x a n k h)) (line_in x a n k h))

pub pair_none : (join : Bool) (a b t c d : ℕ) (l : List ℤ) → Both (firsts join) (seconds join) a b t c d d d l l
pair_none join a b t c d l = record { size = refl; first = λ n j p q h. absurd (omega arith); second = λ n j p q h. absurd (omega arith); off = λ i x y. refl }

module _ (join : Bool) {a b t m c d e : ℕ} {l l' : List ℤ} (g : Parts a b t m m c (length l)) (top : e ≤ m) (f : Both (firsts join) (seconds join) a b t c d e e l l') where
  first_old : (n j : ℕ) → e ≤ n → n < m → j < c → lane a t l' j n ≡ lane a t l j n
  first_old n j ge h k = f.off (a + n * t + j)
      (λ n' j' p q r s. omega (arith, same_row a t c n j n' j' g.wide k r s)) (λ n' j' p q r s. g.apart n j n' j' h k (omega arith) r s)

  second_old : (n j : ℕ) → e ≤ n → n < m → j < c → lane b t l' j n ≡ lane b t l j n
  second_old n j ge h k = f.off (b + n * t + j)
      (λ n' j' p q r s. g.apart n' j' n j (omega arith) r h k (sym s)) (λ n' j' p q r s. omega (arith, same_row b t c n j n' j' g.wide k r s))

  pub pairable_more : (u v : ℕ) → e ≤ u → v ≤ m → Pairable join a b t c u v l → Pairable join a b t c u v l'
  pairable_more u v ge le p = record { each = λ n j q h k. rw (first_old n j (omega arith) (omega arith) k, second_old n j (omega arith) (omega arith) k) (p.each n j q h k) }

  pub pair_join : (v : ℕ) {l'' : List ℤ} → d ≤ e → e ≤ v → v ≤ m → Both (firsts join) (seconds join) a b t c e v v l' l'' → Both (firsts join) (seconds join) a b t c d v v l l''
  pair_join v de ev le p = record {
    size = p.size ∙ f.size;
    first = λ n j u h k. by_lt n e
        (λ lt. p.off (a + n * t + j) (λ n' j' q r s w. omega (arith, same_row a t c n j n' j' g.wide k s w)) (λ n' j' q r s w. g.apart n j n' j' (omega arith) k (omega arith) s w) ∙ f.first n j u lt k)
        (λ ge. p.first n j ge h k ∙ ap₂ (pair_first join) (first_old n j ge (omega arith) k) (second_old n j ge (omega arith) k));
    second = λ n j u h k. by_lt n e
        (λ lt. p.off (b + n * t + j) (λ n' j' q r s w. g.apart n' j' n j (omega arith) s (omega arith) k (sym w)) (λ n' j' q r s w. omega (arith, same_row b t c n j n' j' g.wide k s w)) ∙ f.second n j u lt k)
        (λ ge. p.second n j ge h k ∙ ap₂ (pair_second join) (first_old n j ge (omega arith) k) (second_old n j ge (omega arith) k));
    off = λ i x y. p.off i (λ n j q h. x n j (omega arith) h) (λ n j q h. y n j (omega arith) h) ∙ f.off i (λ n j q h. x n j q (omega arith)) (λ n j q h. y n j q (omega arith));
  }

pub pairable_part : (join : Bool) {a b t c d e : ℕ} {l : List ℤ} (u v : ℕ) → Pairable join a b t c d e l → d ≤ u → v ≤ e → Pairable join a b t c u v l
pairable_part join u v p x y = record { each = λ n j q h. p.each n j (omega arith) (omega arith) }

-- ---- what fits 32 bits
pub amount_within : (s : Step) (M a : ℕ) (L : Line ℤ) → AllWithin a M L → AllWithin (a + 1) (movable s M) (amount s M L)
amount_within SPlusP M a L all = predict_within kernel.SPlusP M a L all
amount_within TT M a L all = predict_within kernel.TT M a L all
amount_within High M a L all = predict_within kernel.FiveThree M a L all
amount_within Low M a L all = λ n h. within_more (update_within M a n L all) (omega arith)

pub moved_within : (add : Bool) (a b : ℕ) (t p : ℤ) → Within a t → Within b p → Within (a + b) (moved add t p)
moved_within true a b t p v w = add_within a b t p v w
moved_within false a b t p v w = sub_within a b t p v w

-- a step on rows within p of a part, from a part within q
pub rows_fit : (s : Step) (add : Bool) {M c d e u v t p q : ℕ} {l : List ℤ} → e ≤ movable s M → RowsWithin p u t c d e l → Bounded q v t M c l → T (ltb (p + (q + 1)) (2 ^ 31)) → Fit s add M c d e u v t l
rows_fit s add {M} {v = v} {t = t} {p = p} {q = q} {l = l} le x y fits = record {
  fits = λ n j o h k. within_fits w32 fits (moved_within add p (q + 1) _ _ (x.each n j o h k) (amount_within s M q (lane v t l j) (y.each j k) n (omega arith)));
}

pub pair_able : (join : Bool) {a b t m c d e : ℕ} {l : List ℤ} → e ≤ m → Bounded (2 ^ 29) a t m c l → RowsWithin (2 ^ 29) b t c d e l → Pairable join a b t c d e l
pair_able false le x y = record { each = λ n j o h r. (x.each j r n (omega arith), y.each n j o h r) }
pair_able true le x y = record {
  each = λ n j o h r. let u = x.each j r n (omega arith) in let v = y.each n j o h r in
      (within_fits w32 tt (first_within (2 ^ 29) (2 ^ 29) _ _ u v), within_fits w32 tt (second_within (2 ^ 29) (2 ^ 29) _ _ u v));
}

-- ---- the stages are local
pub first_local : {p q : ℕ} → Local p p q (λ A B. A)
first_local A A' B B' x y = x

pub second_local : {p q : ℕ} → Local q p q (λ A B. B)
second_local A A' B B' x y = y

pub moves_second_local : {p q : ℕ} (s : Step) (add : Bool) → q ≤ movable s p → Local q p q (λ A B n. moved add (B n) (amount s p A n))
moves_second_local {p} s add le A A' B B' x y n h = ap₂ (moved add) (y n h) (amount_local s p n A A' (omega arith) x)

pub moves_first_local : {p q : ℕ} (s : Step) (add : Bool) → p ≤ movable s q → Local p p q (λ A B n. moved add (A n) (amount s q B n))
moves_first_local {p} {q} s add le A A' B B' x y n h = ap₂ (moved add) (x n h) (amount_local s q n B B' (omega arith) y)
