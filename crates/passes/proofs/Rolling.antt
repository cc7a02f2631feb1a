-- The way back of a level, pair after pair of rows.
--
--   plane_at R M c i x  == number x of the low row, or of the high row, of pair i of the level R, as it is placed
--   begun_at k R M K c i x
--                       == after the second step of the columns is undone
--   ended_at k R M K c i x
--                       == after their first step is undone as well
--   Rolled k R M K S w u e b q l
--                       == so far l is u with its first e pairs taken back, those up to b begun, and those up to q placed
--
-- Assumes nothing.
use mathlib.Core.Path.{◌≡◌, sym, ap, ◌∙◌}
use mathlib.Core.Bool.{Bool, true, false}
use mathlib.Core.List.{List}
use Prim.Native.Nat.{ℕ, ◌+◌, ◌*◌, ◌-◌, ◌/◌, ◌^◌, ◌<◌, ◌≤◌, min}
use native.Mathlib.Omega.{arith}
use lib.IntN.{ℤ}
use lib.ListN.{length}
use Rattle.kernel.specs.declared.Kernel.{Kernel}
use Rattle.line.specs.Cells.{Line, cell, low_side, behind}
use Rattle.line.specs.Inner.{AllWithin}
use Rattle.line.specs.Transform.{undone_evens, undone_odds, back}
use Rattle.line.proofs.Bounds.{within_more}
use Rattle.line.proofs.Cells.{by_lt, by_parity, paired_even, paired_odd}
use Rattle.line.proofs.Local.{back_local}
use Rattle.grid.specs.Picture.{Picture, row_pass, turned, col_pass}
use Rattle.grid.proofs.Passes.{row_of, col_of}
use Rattle.grid.proofs.Parted.{row_cell}
use Rattle.lifting.specs.Parts.{lane, Parts, Bounded, Both}
use Rattle.lifting.specs.Lines.{second_lows, second_highs, first_lows, first_highs, SecondTakes}
use Rattle.lifting.proofs.TwoSteps.{undone_first, undone_second, first_low_there, first_high_there, Holds, holds, takes, second_low_there, second_high_there, undone_lows, undone_highs}
use Rattle.passes.specs.Passes.{Takes, Area}
use Rattle.passes.specs.Pairs.{ended_row, PairBack, PairsPlaced}
use Rattle.passes.specs.Levels.{level_of, LevelBack}
use Rattle.passes.proofs.Running.{takes_agree, area_place}
use Rattle.passes.proofs.PairPlaces.{at, bit, at_row, at_more, lane-at, pair_of}
use Rattle.passes.proofs.Level.{level_left, level_right, level_below}
use Rattle.passes.proofs.Swept.{counts, Apart, Changed, Swept}

-- ---- what the rows of a pair hold
abbrev pub plane_at : Picture ℤ → ℕ → Bool → ℕ → Line ℤ
plane_at R M false i x = R i x
plane_at R M true i x = R (M + i) x

abbrev pub begun_at : Kernel → Picture ℤ → ℕ → ℕ → Bool → ℕ → Line ℤ
begun_at k R M K false i x = second_lows true k K (λ n. R n x) (λ n. R (M + n) x) i
begun_at k R M K true i x = second_highs true k M (λ n. R n x) (λ n. R (M + n) x) i

abbrev pub ended_at : Kernel → Picture ℤ → ℕ → ℕ → Bool → ℕ → Line ℤ
ended_at k R M K false i x = first_lows true k K (λ n. begun_at k R M K false n x) (λ n. begun_at k R M K true n x) i
ended_at k R M K true i x = first_highs true k M (λ n. begun_at k R M K false n x) (λ n. begun_at k R M K true n x) i

pub record Rolled (k : Kernel) (R : Picture ℤ) (M K S w : ℕ) (u : List ℤ) (e b q : ℕ) (l : List ℤ) : Type 0 where
  pub swept : Swept (at S) (plane_at R M) (begun_at k R M K) (λ c i. back k w (ended_at k R M K c i)) (counts M K) w u e b q l

pub pairs_apart : (S w : ℕ) (m : Bool → ℕ) → w ≤ S → Apart (at S) m w
pairs_apart S w m wide c c' i i' x x' a b h h' e = pair_of S w c c' i i' x x' wide h h' e

-- ---- pairs that are placed
module _ {k : Kernel} {W S w h e b q f : ℕ} (p u l l' : List ℤ) (z : Area W w h (length p)) (wide : w ≤ S) (top : f ≤ low_side h)
    (r : Rolled k (level_of W S w h p u) (low_side h) (h / 2) S w u e b q l) (t : PairsPlaced W S w h q f p l l') where
  pub placed_changed : Changed (at S) (counts (low_side h) (h / 2)) w q f l l'
  placed_changed = record { size = t.size; off = λ j no. t.off j (λ i x a n g lt. no false i x a n (omega arith) lt) (λ i x a n m lt. no true i x a n m lt) }

  -- the left part of a low row is what the levels below left there
  left_cell : (i x : ℕ) → q ≤ i → i < low_side h → x < low_side w → cell l' (2 * i * S + x) ≡ level_of W S w h p u i x
  left_cell i x a n lt =
      t.off (2 * i * S + x)
      (λ i' x' c d g q' o. omega (arith, z.some_w, col_of S (2 * i) (2 * i') x x' (omega (arith, z.some_w)) (omega arith) o))
      (λ i' x' c d m q' o. omega (arith, row_of S (2 * i) (2 * i' + 1) x x' (omega (arith, z.some_w)) (omega arith) (o ∙ at_row S true i' x')))
      ∙ r.swept.left false i x a n (omega (arith, z.some_w)) ∙ sym (level_left W S w h p u i x n lt)

  pub placed_new : (c : Bool) (i x : ℕ) → q ≤ i → i < f → i < counts (low_side h) (h / 2) c → x < w → cell l' (at S c i + x) ≡ plane_at (level_of W S w h p u) (low_side h) c i x
  placed_new false i x a n m lt = by_lt x (low_side w)
      (λ left. left_cell i x a (omega arith) left)
      (λ right. t.low i x a n right lt ∙ sym (level_right W S w h p u i x right (omega (arith, z.wide))))
  placed_new true i x a n m lt = t.high i x a n m lt ∙ sym (level_below W S w h p u (low_side h + i) x (omega arith) (omega (arith, z.wide)))

-- ---- p rows of lows and r rows of highs, from pair n on
pub parts_at : {S w h size : ℕ} (n p r : ℕ) → Area S w h size → n + p ≤ low_side h → n + r ≤ h / 2 → Parts (at S false n) (at S true n) (2 * S) p r w size
parts_at {S} {w} {h} {size} n p r z low high = record {
  few = (omega (arith, z.h_most), omega (arith, z.h_most));
  lines = z.some_w;
  wide = omega (arith, z.wide);
  first = record { place = λ i j a c. inside false i j (omega arith) c };
  second = record { place = λ i j a c. inside true i j (omega arith) c };
  apart = λ i j i' j' a c a' c' o. omega (arith, row_of S (2 * (n + i) + 0) (2 * (n + i') + 1) j j' (omega (arith, z.wide)) (omega (arith, z.wide)) (sym (at_row S false (n + i) j) ∙ sym (at_more S false n i j) ∙ o ∙ at_more S true n i' j' ∙ at_row S true (n + i') j'));
}
  where
    inside : (c : Bool) (i j : ℕ) → 2 * (n + i) + bit c < h → j < w → at S c n + i * (2 * S) + j < size
    inside c i j a d = omega (arith, at_more S c n i j, at_row S c (n + i) j, area_place z (2 * (n + i) + bit c) j a d)

-- ---- the high rows of a window from pair n on, of q pairs that are placed
near_highs : (q K n i : ℕ) → n + i ≤ q → n + i ≤ K → i ≤ min q K - n
near_highs q K n i a b = omega arith

pub highs_top : (q K n : ℕ) → n ≤ K → n + (min q K - n) ≤ K
highs_top q K n a = omega arith

highs_reach : (q K n i : ℕ) → n + i + 1 ≤ q → n ≤ K → min (n + i + 1) K ≤ n + (min q K - n)
highs_reach q K n i a b = omega arith

-- of pair n itself there is one, or none
pub pair_top : (K n e : ℕ) → n ≤ K → e ≡ min (n + 1) K - n → (e ≤ 1) × (n + e ≤ K)
pair_top K n e a p = omega arith

-- up to pair f they are all of those placed, but one perhaps
pub high_window : (h : ℕ) {n f q : ℕ} → n < low_side h → n + 1 ≤ f → f ≤ q → q ≤ low_side h → f - n ≤ min q (h / 2) - n + 1
high_window h a b c d = omega arith

-- ---- pairs whose columns are begun: rows b up to f of the q that are placed, from pair n on
module _ {k : Kernel} {R : Picture ℤ} {M K S w n b q f : ℕ} (u l : List ℤ) (le : K ≤ M) (fit : M ≤ K + 1) (nb : n ≤ b) (bf : b ≤ f) (fq : f ≤ q) (qm : q ≤ M)
    (r : Rolled k R M K S w u n b q l) where
  abbrev row : Bool → ℕ → Line ℤ
  row c x = lane (at S c n) (2 * S) l x

  -- the high rows that are placed
  abbrev highs : ℕ
  highs = min q K - n

  begun_row : (c : Bool) (x i : ℕ) → x < w → i < b - n → n + i < counts M K c → row c x i ≡ begun_at k R M K c (n + i) x
  begun_row c x i h a m = lane-at S c n i x l ∙ r.swept.begun c (n + i) x (omega arith) (omega arith) m h

  placed_row : (c : Bool) (x i : ℕ) → x < w → b - n ≤ i → i < q - n → n + i < counts M K c → row c x i ≡ plane_at R M c (n + i) x
  placed_row c x i h a d m = lane-at S c n i x l ∙ r.swept.placed c (n + i) x (omega arith) (omega arith) m h

  rows_hold : (x : ℕ) → x < w → Holds k n (q - n) highs (λ i. R i x) (λ i. R (M + i) x) (row false x) (row true x)
  rows_hold x h = holds k M K n (q - n) highs (b - n) (λ i. R i x) (λ i. R (M + i) x) (row false x) (row true x)
      (λ i a d. begun_row false x i h a (omega arith)) (λ i a d. begun_row true x i h a (omega arith))
      (λ i a d. placed_row false x i h a d (omega arith)) (λ i a d. placed_row true x i h a (omega arith) (omega arith))

  pub rows_begin : n ≤ K → ((x : ℕ) → x < w → AllWithin (2 ^ 28) M (λ i. R i x)) → ((x : ℕ) → x < w → AllWithin (2 ^ 24) K (λ i. R (M + i) x))
      → SecondTakes k (at S false n) (at S true n) (2 * S) (q - n) highs w (b - n) (f - n) l
  rows_begin nk lows within = takes (at S false n) (at S true n) (2 * S) (q - n) highs w (b - n) (f - n) l M K n (λ x i. R i x) (λ x i. R (M + i) x) (omega arith) (omega arith) (omega arith)
      lows (λ x h i a. within_more (within x h i a) (omega arith))
      (λ i x a d h. placed_row false x i h a (omega arith) (omega arith)) (λ i x a d o h. placed_row true x i h a (omega arith) (omega arith)) k rows_hold

  module _ {l' : List ℤ} (back-far : b < f → n ≤ b - 2) (ahead : min (f + 2) M ≤ q) (nk : n ≤ K)
      (t : Both (second_lows true k highs) (second_highs true k (q - n)) (at S false n) (at S true n) (2 * S) w (b - n) (f - n) (min (f - n) highs) l l') where
    pub begun_changed : Changed (at S) (counts M K) w b f l l'
    begun_changed = record {
      size = t.size;
      off = λ j no. t.off j
          (λ i x a d h o. no false (n + i) x (omega arith) (omega arith) (omega arith) h (o ∙ at_more S false n i x))
          (λ i x a d h o. no true (n + i) x (omega arith) (omega arith) (omega arith) h (o ∙ at_more S true n i x));
    }

    begun_low : (x i : ℕ) → x < w → b - n ≤ i → i < f - n → second_lows true k highs (row false x) (row true x) i ≡ begun_at k R M K false (n + i) x
    begun_low x i h a d =
        let far = back-far (omega arith) in
        second_low_there true M K n (q - n) highs i (λ i. R i x) (λ i. R (M + i) x) (row false x) (row true x) (omega arith) (omega arith) k
        (near_highs q K n i (omega arith) (omega arith)) (highs_top q K n nk) (highs_reach q K n i (omega arith) nk)
        (rows_hold x h) (placed_row false x i h a (omega arith) (omega arith))

    begun_high : (x i : ℕ) → x < w → b - n ≤ i → i < f - n → n + i < K → second_highs true k (q - n) (row false x) (row true x) i ≡ begun_at k R M K true (n + i) x
    begun_high x i h a d m =
        let far = back-far (omega arith) in
        second_high_there true M K n (q - n) highs i (λ i. R i x) (λ i. R (M + i) x) (row false x) (row true x) (omega arith) (omega arith) k (omega arith) (omega arith)
        (rows_hold x h) (placed_row true x i h a (omega arith) m)

    pub begun_new : (c : Bool) (i x : ℕ) → b ≤ i → i < f → i < counts M K c → x < w → cell l' (at S c i + x) ≡ begun_at k R M K c i x
    begun_new c i x a d m h = let g : n + (i - n) ≡ i = omega arith in let s = at-window c (i - n) (omega arith) (omega arith) (rw g m) in rw g at s
      where
        at-window : (c : Bool) (j : ℕ) → b - n ≤ j → j < f - n → n + j < counts M K c → cell l' (at S c (n + j) + x) ≡ begun_at k R M K c (n + j) x
        at-window false j y v o = sym (lane-at S false n j x l') ∙ t.first j x y v h ∙ begun_low x j h y v
        at-window true j y v o = sym (lane-at S true n j x l') ∙ t.second j x y (omega arith) h ∙ begun_high x j h y v o

-- ---- a pair that is ended, in the rows up to b that are begun; e is 1 where it has a high row, and else 0
module _ {k : Kernel} {R : Picture ℤ} {M K S w n b q : ℕ} (u l : List ℤ) (le : K ≤ M) (fit : M ≤ K + 1) (nb : n < b) (bq : b ≤ q) (qm : q ≤ M) (ahead : min (n + 2) M ≤ b)
    (r : Rolled k R M K S w u n b q l) {e : ℕ} (pair : e ≡ min (n + 1) K - n) where
  window_row : (c : Bool) (x : ℕ) → x < w → (i : ℕ) → i < b - n → n + i < counts M K c → lane (at S c n) (2 * S) l x i ≡ begun_at k R M K c (n + i) x
  window_row c x h i a m = lane-at S c n i x l ∙ r.swept.begun c (n + i) x (omega arith) (omega arith) m h

  ended_low : (x : ℕ) → x < w → ended_row false k (b - n) e (at S false n) S l x ≡ ended_at k R M K false n x
  ended_low x h =
      let z : n + 0 ≡ n = omega arith in
      rw z at (first_low_there true M K n (b - n) e 0 (λ i. begun_at k R M K false i x) (λ i. begun_at k R M K true i x) (lane (at S false n) (2 * S) l x) (lane (at S true n) (2 * S) l x)
      (omega arith) (omega arith) (omega (arith, pair)) (omega (arith, pair)) k (window_row false x h 0 (omega arith) (omega arith)) (λ lt. window_row true x h 0 (omega arith) (omega (arith, pair))))

  ended_high : (x : ℕ) → x < w → n < K → ended_row true k (b - n) e (at S false n) S l x ≡ ended_at k R M K true n x
  ended_high x h m =
      let z : n + 0 ≡ n = omega arith in
      rw z at (first_high_there true M K n (b - n) e 0 (λ i. begun_at k R M K false i x) (λ i. begun_at k R M K true i x) (lane (at S false n) (2 * S) l x) (lane (at S true n) (2 * S) l x)
      (omega arith) (omega arith) (omega (arith, pair)) (omega (arith, pair)) k (omega arith) (λ i o a. window_row false x h i a (omega arith)) (window_row true x h 0 (omega arith) (omega arith)))

  pub ended_is : (c : Bool) (x : ℕ) → n < counts M K c → x < w → ended_row c k (b - n) e (at S false n) S l x ≡ ended_at k R M K c n x
  ended_is false x m h = ended_low x h
  ended_is true x m h = ended_high x h m

  module _ (lows : (x : ℕ) → x < w → AllWithin (2 ^ 28) M (λ i. R i x)) (highs : (x : ℕ) → x < w → AllWithin (2 ^ 24) K (λ i. R (M + i) x)) where
    pub lows_near : Bounded (2 ^ 29) (at S false n) (2 * S) (b - n) w l
    lows_near = record { each = λ x h i a. rw (window_row false x h i a (omega arith)) (undone_lows M K _ _ le fit (lows x h) (highs x h) k (n + i) (omega arith)) }

    pub highs_near : Bounded (2 ^ 29) (at S true n) (2 * S) e w l
    highs_near = record {
      each = λ x h i a. rw (window_row true x h i (omega (arith, pair)) (omega (arith, pair))) (undone_highs M K _ _ le fit (lows x h) (highs x h) k (n + i) (omega (arith, pair)));
    }

  module _ {l' : List ℤ} (t : PairBack k (b - n) e (at S false n) S w l l') where
    pub ended_changed : Changed (at S) (counts M K) w n (n + 1) l l'
    ended_changed = record {
      size = t.size;
      off = λ j no. t.off j (λ x h. no false n x (omega arith) (omega arith) (omega arith) h) (λ x some h. no true n x (omega arith) (omega arith) (omega (arith, pair)) h);
    }

    pub ended_new : (c : Bool) (x : ℕ) → n < counts M K c → x < w → cell l' (at S c n + x) ≡ back k w (ended_at k R M K c n) x
    ended_new false x m h = t.low x h ∙ back_local k w _ _ (λ v. ended_is false v m) x h
    ended_new true x m h = t.high x (omega (arith, pair)) h ∙ back_local k w _ _ (λ v. ended_is true v m) x h

-- ---- the whole level
module _ (h : ℕ) (k : Kernel) where
  back_even : (Y : Line ℤ) (i : ℕ) → back k h Y (2 * i) ≡ undone_evens k (low_side h) (h / 2) Y (behind (low_side h) Y) i
  unfolding back
  back_even Y i = paired_even _ _ i

  back_odd : (Y : Line ℤ) (i : ℕ) → back k h Y (2 * i + 1) ≡ undone_odds k (low_side h) (h / 2) Y (behind (low_side h) Y) i
  unfolding back
  back_odd Y i = paired_odd _ _ i

module _ (w h : ℕ) (k : Kernel) (R : Picture ℤ) where
  abbrev ended : Bool → ℕ → Line ℤ
  ended = ended_at k R (low_side h) (h / 2)

  -- the columns of a pair that is ended are taken back
  pub ended_column : (c : Bool) (i x : ℕ) → i < counts (low_side h) (h / 2) c → x < w → ended c i x ≡ col_pass (back k) w h R (2 * i + bit c) x
  ended_column false i x a b =
      undone_first k (low_side h) (h / 2) (λ n. R n x) (λ n. R (low_side h + n) x) i a ∙ sym (back_even h k (turned R x) i) ∙ ap (back k h (turned R x)) (omega arith)
      ∙ sym (row_cell (back k) h w x (2 * i + 0) (turned R) b (omega arith))
  ended_column true i x a b =
      undone_second k (low_side h) (h / 2) (λ n. R n x) (λ n. R (low_side h + n) x) i a ∙ sym (back_odd h k (turned R x) i) ∙ sym (row_cell (back k) h w x (2 * i + 1) (turned R) b (omega arith))

  in_level : (c : Bool) (i : ℕ) → i < counts (low_side h) (h / 2) c → 2 * i + bit c < h
  in_level false i a = omega arith
  in_level true i a = omega arith

  pub ended_takes : (c : Bool) (i : ℕ) {X : Line ℤ} → i < counts (low_side h) (h / 2) c → ((x : ℕ) → x < w → X x ≡ ended c i x) → ((y : ℕ) → y < h → Takes true w (col_pass (back k) w h R y)) → Takes true w X
  ended_takes c i a e all = takes_agree true w _ _ (λ x b. sym (e x b ∙ ended_column c i x a b)) (all (2 * i + bit c) (in_level c i a))

  pub level_cell : {S q : ℕ} {u l : List ℤ} → Rolled k R (low_side h) (h / 2) S w u (low_side h) (low_side h) q l → (y x : ℕ) → y < h → x < w
      → cell l (y * S + x) ≡ row_pass (back k) w h (col_pass (back k) w h R) y x
  level_cell {S} {q} {u} {l} r y x i j = by_parity (λ v. v < h → cell l (v * S + x) ≡ row_pass (back k) w h (col_pass (back k) w h R) v x)
      (λ n b. let e : 2 * n + 0 ≡ 2 * n = omega arith in let t = here false n (omega arith) (omega arith) (omega arith) in rw e at t)
      (λ n b. ap (cell l) (sym (at_row S true n x)) ∙ here true n (omega arith) (omega arith) b) y i
    where
      here : (c : Bool) (n : ℕ) → n < low_side h → n < counts (low_side h) (h / 2) c → 2 * n + bit c < h → cell l (at S c n + x) ≡ row_pass (back k) w h (col_pass (back k) w h R) (2 * n + bit c) x
      here c n d m b = r.swept.done c n x d m j ∙ back_local k w _ _ (λ v a. ended_column c n v m a) x j ∙ sym (row_cell (back k) w h (2 * n + bit c) x (col_pass (back k) w h R) b j)

pub level_done : {W S w h q : ℕ} (k : Kernel) (p u l : List ℤ) → Rolled k (level_of W S w h p u) (low_side h) (h / 2) S w u (low_side h) (low_side h) q l → LevelBack k W S w h p u l
level_done {W} {S} {w} {h} k p u l r = record {
  size = r.swept.size;
  inside = λ y x i j. level_cell w h k (level_of W S w h p u) r y x i j;
  off = λ j no. r.swept.off j (λ c i x a b o. no (2 * i + bit c) x (in_level w h k (level_of W S w h p u) c i a) b (o ∙ at_row S c i x));
}
